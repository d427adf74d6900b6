use Rattle.std.proofs.Common.{get_or, sym, subst}
use Rattle.book_words.specs.Cuts.{EndsAt, Begins}
use Rattle.book_words.proofs.Parting.{ends_word}
use Rattle.book_words.proofs.cuts.token_end.Goals as goal

pub returns-in-Word : goal.returns-in-Word
returns-in-Word c =
    let s = c.args.text.now in
    let w = c.word_end.ensures in
    subst (λ d. EndsAt d s c.args.at c.word_end.result) (sym c.in-Word.is) (ends_word s c.args.at c.word_end.result c.requires.0 (subst (λ d. Begins d (get_or s c.args.at 0)) c.in-Word.is c.requires.1) w.ahead w.within w.plain w.ends)
