use Rattle.std.proofs.Common.{◌≡◌, Err, length, sym, refl, subst, rules}
use Rattle.whole_book.specs.Both.{TextsRead, Fits, why_of}
use Rattle.whole_book.proofs.Locating.{book_refused}
use Rattle.whole_book.proofs.both.read_texts.Goals as goal

pub returns-in_err-read : goal.returns-in_err-read
returns-in_err-read g c =
    let h = c.args.host.now in
    let e = c.in_err-read.field-0.0 in
    let q : c.from_residual-in_err-read.result ≡ Err (why_of e) = search rules in
    let f : Fits c.args.table.now (length (g.H.Host.rows h)) c.in_ok-rows.rows = search rules in
    subst (λ r. TextsRead g.H.Host.rows g.H.Host.held c.args.table.now c.args.book.now h r h) (sym q) (refl, book_refused c.args.table.now c.args.book.now (length (g.H.Host.rows h)) c.in_ok-rows.rows e f c.in_err-read.ensures.answer)
