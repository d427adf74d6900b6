use Rattle.std.proofs.Common.{◌++◌, length, drop, ap, ◌∙◌, rules}
use Rattle.std.specs.Int.{w64, from_be_bytes}
use Rattle.host.proofs.Spelled.{zeros, packed_padded}
use Rattle.host.proofs.names.pack_name.Goals as goal

pub returns : goal.returns
returns c =
    let bs = c.args.bytes.now in
    (record { some = search rules; few = search rules; plain = search rules }, c.from_be_bytes.ensures ∙ ap (λ cs. from_be_bytes w64 (cs ++ drop (length bs) zeros)) c.copy_from_slice.ensures.after ∙ packed_padded bs (search rules))
