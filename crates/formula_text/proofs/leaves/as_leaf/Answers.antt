use Rattle.std.proofs.Common.{codes, sym, ap, arith, rules}
use Rattle.std.proofs.lemmas.Slice.Eq.{text_from_reads}
use Rattle.formula_text.specs.Words.{leaf_word_of}
use Rattle.formula_text.proofs.leaves.as_leaf.Goals as goal

pub returns-in-always : goal.returns-in-always
returns-in-always c = sym (ap leaf_word_of (text_from_reads c.args.word.now (codes "always") (omega arith) (search rules)))

pub returns-in-eventually : goal.returns-in-eventually
returns-in-eventually c = sym (ap leaf_word_of (text_from_reads c.args.word.now (codes "eventually") (omega arith) (search rules)))
