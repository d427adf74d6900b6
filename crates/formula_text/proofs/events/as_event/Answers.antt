use Rattle.std.proofs.Common.{codes, sym, ap, arith, rules}
use Rattle.std.proofs.lemmas.Slice.Eq.{text_from_reads}
use Rattle.formula_text.specs.Words.{event_of}
use Rattle.formula_text.proofs.events.as_event.Goals as goal

pub returns-in-called : goal.returns-in-called
returns-in-called c = sym (ap event_of (text_from_reads c.args.word.now (codes "called") (omega arith) (search rules)))

pub returns-in-normal : goal.returns-in-normal
returns-in-normal c = sym (ap event_of (text_from_reads c.args.word.now (codes "normal") (omega arith) (search rules)))

pub returns-in-exceptional : goal.returns-in-exceptional
returns-in-exceptional c = sym (ap event_of (text_from_reads c.args.word.now (codes "exceptional") (omega arith) (search rules)))

pub returns-in-terminates : goal.returns-in-terminates
returns-in-terminates c = sym (ap event_of (text_from_reads c.args.word.now (codes "terminates") (omega arith) (search rules)))
