use Rattle.std.proofs.Common.{codes, sym, ap, arith, rules}
use Rattle.std.proofs.lemmas.Slice.Eq.{text_from_reads}
use Rattle.book_text.specs.Words.{keyword_of}
use Rattle.book_text.proofs.words.as_keyword.Goals as goal

pub returns-in-atmost : goal.returns-in-atmost
returns-in-atmost c = sym (ap keyword_of (text_from_reads c.args.word.now (codes "atmost") (omega arith) (search rules)))
