use Rattle.std.proofs.Common.{length, sym, ap, ◌∙◌, arith}
use Rattle.book_words.specs.Cuts.{words_of}
use Rattle.book_text.proofs.Lexical.{same_true}
use Rattle.book_text.proofs.Steps.{as_long, stands}
use Rattle.book_text.proofs.cursors.Cursor.behind.Goals as goal

pub to-requires : goal.to-requires
to-requires c =
    let s = c.args.self.tokens.now in
    let word = sym c.word.ensures ∙ same_true _ _ (sym c.if-eq.ensures) in
    omega (arith, as_long s, stands (words_of s) c.args.self.at c.args.text.now (λ e. omega (arith, ap length e, c.requires)) word)

pub returns-then-eq : goal.returns-then-eq
returns-then-eq c = record { tokens = c.to.ensures.tokens; at = c.to.ensures.at; word = sym c.word.ensures ∙ same_true _ _ (sym c.if-eq.ensures) }
