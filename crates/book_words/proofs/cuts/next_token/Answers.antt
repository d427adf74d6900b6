use Rattle.std.proofs.Common.{sym, refl}
use Rattle.book_words.proofs.Parting.{found_gap}
use Rattle.book_words.proofs.cuts.next_token.Goals as goal

pub returns : goal.returns
returns c =
    let s = c.args.text.now in
    let f = c.in_ok-found.ensures in
    let e = c.token_end-behind.ensures in
    let g = found_gap c.args.class c.in_ok-found.found s c.args.end c.skip_blank-at.result c.skip_blank-at.ensures f.0 f.1 c.requires.1 (sym c.if-not-gap_fits.ensures) in
    record { behind = g.0; gap = g.1; ahead = e.ahead; inside = e.inside; word = refl; proper = e.proper; ended = e.ended }
