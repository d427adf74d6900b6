use Rattle.std.proofs.Common.{◌≡◌, ◌+◌, ◌-◌, eqb, take, sym, ap, subst, rules}
use Rattle.std.specs.List.{count_by}
use Rattle.std.specs.Option.{option_map_or}
use Rattle.table_text.specs.Texts.{Stands}
use Rattle.table_text.proofs.Found.{stands_behind}
use Rattle.table_text.proofs.words.locate.Goals as goal

pub returns : goal.returns
returns c =
    let s = c.args.text.now in
    let at = c.args.at in
    let n : c.count-line.result ≡ count_by (λ b. eqb b 10) (take at s) = search rules in
    let e : c.map_or-byte.result ≡ option_map_or (λ i. at - i - 1) c.last_newline.result at = search rules in
    subst (Stands s at (1 + c.count-line.result)) (sym e) (stands_behind s at (1 + c.count-line.result) c.last_newline.result c.requires (ap (λ k. 1 + k) n) c.last_newline.ensures)
