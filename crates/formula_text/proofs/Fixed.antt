-- The fixed words that stand for an event or begin a leaf are words.
use Rattle.std.proofs.Common.{refl}
use Rattle.book_words.specs.declared.bytes.Class.TheVariants.{Word}
use Rattle.book_words.specs.Layout.{Proper}
use Rattle.book_words.proofs.Lining.{word_proper}
use Rattle.formula_text.specs.declared.events.EventWord.{EventWord}
use Rattle.formula_text.specs.declared.events.EventWord.TheVariants.{Called, Normal, Exceptional, Terminates}
use Rattle.formula_text.specs.declared.leaves.LeafWord.{LeafWord}
use Rattle.formula_text.specs.declared.leaves.LeafWord.TheVariants as says
use Rattle.formula_text.specs.Words.{event_text, leaf_text}

pub event_proper : (w : EventWord) → Proper Word (event_text w)
event_proper Called = word_proper _ _ (refl, (refl, (refl, (refl, (refl, (refl, tt))))))
event_proper Normal = word_proper _ _ (refl, (refl, (refl, (refl, (refl, (refl, tt))))))
event_proper Exceptional = word_proper _ _ (refl, (refl, (refl, (refl, (refl, (refl, (refl, (refl, (refl, (refl, (refl, tt)))))))))))
event_proper Terminates = word_proper _ _ (refl, (refl, (refl, (refl, (refl, (refl, (refl, (refl, (refl, (refl, tt))))))))))

pub leaf_proper : (w : LeafWord) → Proper Word (leaf_text w)
leaf_proper says.Always = word_proper _ _ (refl, (refl, (refl, (refl, (refl, (refl, tt))))))
leaf_proper says.Eventually = word_proper _ _ (refl, (refl, (refl, (refl, (refl, (refl, (refl, (refl, (refl, (refl, tt))))))))))
leaf_proper says.Never = word_proper _ _ (refl, (refl, (refl, (refl, (refl, tt)))))
