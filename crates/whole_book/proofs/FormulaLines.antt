-- The words of a rule are a line: words and signs up to its end.
use Rattle.std.proofs.Common.{◌≡◌, ℕ, ◌^◌, ◌<◌, ◌⊎◌, List, [], ◌∷◌, ◌++◌, codes, decimal, sym, refl, ap, ◌∙◌, subst, inl, inr, ⊎_elim, append_assoc, arith}
use Rattle.std.specs.List.{AllByRecursion}
use Rattle.std.proofs.ByRecursion.{All-append}
use Rattle.ftpl.specs.declared.formulas.EventList.{EventList}
use Rattle.ftpl.specs.declared.formulas.Leaf.{Leaf}
use Rattle.book_words.specs.declared.bytes.ByteKind.TheVariants.{Plain}
use Rattle.book_words.specs.declared.bytes.Class.TheVariants.{Word}
use Rattle.book_words.specs.Bytes.{kind_of}
use Rattle.book_words.specs.Layout.{Proper}
use Rattle.book_words.proofs.Lining.{word_proper, Inside, Lined, decimal_inside, word_inside, inside_not}
use Rattle.book_text.specs.Rules.{Text, Level}
use Rattle.formula_text.specs.Words.{leaf_text}
use Rattle.formula_text.specs.Rules.{Listing, a_last, a_more, ListSays, Tree, Reads, a_leaf, a_group, one_tight, and_tight, one_loose, or_loose, CoreOf, just, before, until, CoreSays, AftersSay, LineSays, Fronted, within, apart}
use Rattle.formula_text.specs.Wrong.{IsRule}
use Rattle.formula_text.proofs.Fixed.{event_proper, leaf_proper}

after_proper : Proper Word (codes "after")
after_proper = word_proper _ _ (refl, (refl, (refl, (refl, (refl, tt)))))

before_proper : Proper Word (codes "before")
before_proper = word_proper _ _ (refl, (refl, (refl, (refl, (refl, (refl, tt))))))

until_inside : Inside (codes "until")
until_inside = word_inside _ _ (refl, (refl, (refl, (refl, (refl, tt)))))

rule_inside : Inside (codes "rule=")
rule_inside = word_inside _ _ (refl, (refl, (refl, (refl, (refl, tt)))))

listing_inside : {e f : EventList} {p : List Text} → Listing e p f → AllByRecursion Inside p
listing_inside (a_last k w l m) = (decimal_inside k (omega arith), (inr (event_proper w), (inl (93, refl, refl), tt)))
listing_inside (a_more k w l m r) = (decimal_inside k (omega arith), (inr (event_proper w), (inl (44, refl, refl), listing_inside r)))

list_inside : {e : EventList} {p : List Text} → ListSays e p → AllByRecursion Inside p
list_inside h = subst (AllByRecursion Inside) (sym h.2) (inl (91, refl, refl), listing_inside h.1)

module _ {n : ℕ} (small : n < 2 ^ 64) where
  reads_inside : {l : Level} {d : ℕ} {p : List Text} {f : Tree Leaf} → Reads n l d p f → AllByRecursion Inside p
  reads_inside (a_leaf m w l k) = (inr (leaf_proper w), (decimal_inside m (omega arith), tt))
  reads_inside (a_group {p = p} r) = (inl (40, refl, refl), All-append Inside p (codes ")" ∷ []) (reads_inside r) (inl (41, refl, refl), tt))
  reads_inside (one_tight r) = reads_inside r
  reads_inside (and_tight {p = p} {q = q} r s) = All-append Inside p (codes "&" ∷ q) (reads_inside r) (inl (38, refl, refl), reads_inside s)
  reads_inside (one_loose r) = reads_inside r
  reads_inside (or_loose {p = p} {q = q} r s) = All-append Inside p (codes "|" ∷ q) (reads_inside r) (inl (124, refl, refl), reads_inside s)

  core_inside : (f : CoreOf Leaf) (p : List Text) → CoreSays n f p → AllByRecursion Inside p
  core_inside (just f) p h = reads_inside h.reads
  core_inside (before e f) p h = subst (AllByRecursion Inside) (sym h.4) (inr before_proper, All-append Inside h.0 h.1 (list_inside h.2) (reads_inside h.3.reads))
  core_inside (until f e) p h = subst (AllByRecursion Inside) (sym h.4) (All-append Inside h.0 (codes "until" ∷ h.1) (reads_inside h.2.reads) (until_inside, list_inside h.3))

  afters_inside : (es : List EventList) (p : List Text) → AftersSay es p → AllByRecursion Inside p
  afters_inside [] p h = subst (AllByRecursion Inside) (sym h) tt
  afters_inside (e ∷ es) p h = subst (AllByRecursion Inside) (sym h.4) (inr after_proper, All-append Inside h.0 h.1 (list_inside h.2) (afters_inside es h.1 h.3))

  line_lined : {es : List EventList} {f : CoreOf Leaf} {p : List Text} → LineSays n es f p → Lined p
  line_lined {es} {f} h =
      record {
        front = h.afters ++ h.core;
        inside = All-append Inside h.afters h.core (afters_inside es h.afters h.after) (core_inside f h.core h.says);
        words = h.words ∙ sym (append_assoc h.afters h.core (codes "\n" ∷ []));
      }

  -- words that begin with a parenthesis or a word
  abbrev Begun : List Text → Type 0
  Begun p = (t : Text) × (q : List Text) × (p ≡ t ∷ q) × ((t ≡ codes "(") ⊎ Proper Word t)

  begun_on : (p u : List Text) → Begun p → Begun (p ++ u)
  begun_on p u b = (b.0, b.1 ++ u, ap (λ z. z ++ u) b.2, b.3)

  reads_begun : {l : Level} {d : ℕ} {p : List Text} {f : Tree Leaf} → Reads n l d p f → Begun p
  reads_begun (a_leaf m w l k) = (leaf_text w, decimal m ∷ [], refl, inr (leaf_proper w))
  reads_begun (a_group {p = p} r) = (codes "(", p ++ (codes ")" ∷ []), refl, inl refl)
  reads_begun (one_tight r) = reads_begun r
  reads_begun (and_tight {p = p} {q = q} r s) = begun_on p (codes "&" ∷ q) (reads_begun r)
  reads_begun (one_loose r) = reads_begun r
  reads_begun (or_loose {p = p} {q = q} r s) = begun_on p (codes "|" ∷ q) (reads_begun r)

  core_begun : (f : CoreOf Leaf) (p : List Text) → CoreSays n f p → Begun p
  core_begun (just f) p h = reads_begun h.reads
  core_begun (before e f) p h = (codes "before", h.0 ++ h.1, h.4, inr before_proper)
  core_begun (until f e) p h = subst Begun (sym h.4) (begun_on h.0 (codes "until" ∷ h.1) (reads_begun h.2.reads))

  afters_begun : (es : List EventList) (p u : List Text) → AftersSay es p → Begun u → Begun (p ++ u)
  afters_begun [] p u h b = subst (λ z. Begun (z ++ u)) (sym h) b
  afters_begun (e ∷ es) p u h b = subst (λ z. Begun (z ++ u)) (sym h.4) (codes "after", (h.0 ++ h.1) ++ u, refl, inr after_proper)

  line_begun : {es : List EventList} {f : CoreOf Leaf} {p : List Text} → LineSays n es f p → Begun p
  line_begun {es} {f} h = subst Begun (sym h.words) (afters_begun es h.afters (h.core ++ (codes "\n" ∷ [])) h.after (begun_on h.core (codes "\n" ∷ []) (core_begun f h.core h.says)))

  -- `rule=` in front of a line's first word
  first_lined : (t : Text) (p f : List Text) → Proper Word t → AllByRecursion Inside f → t ∷ p ≡ f ++ (codes "\n" ∷ []) → Lined ((codes "rule=" ++ t) ∷ p)
  first_lined t p [] h k e = absurd (inside_not t (inr h) (cc))
  first_lined t p (x ∷ f) h k e =
      let q : p ≡ f ++ (codes "\n" ∷ []) = cc in
      record { front = (codes "rule=" ++ t) ∷ f; inside = (word_inside _ _ (All-append (λ b. kind_of b ≡ Plain) (codes "rule=") t (refl, (refl, (refl, (refl, (refl, tt))))) h.1), k.1); words = ap (λ z. (codes "rule=" ++ t) ∷ z) q }

  fronted_lined : {q p : List Text} → Fronted q p → Begun q → Lined q → Lined p
  fronted_lined (within {t} {p} h) b l =
      let e = b.2 in
      let same : t ≡ b.0 = cc in
      ⊎_elim (λ k. absurd (h (same ∙ k))) (λ k. first_lined t p l.front (subst (Proper Word) (sym same) k) l.inside l.words) b.3
  fronted_lined (apart {p}) b l = record { front = codes "rule=" ∷ l.front; inside = (rule_inside, l.inside); words = ap (λ z. codes "rule=" ∷ z) l.words }

  -- the words of a rule are a line
  pub rule_lined : (p : List Text) → IsRule n p → Lined p
  rule_lined p h = fronted_lined h.2.fronted (line_begun h.2.says) (line_lined h.2.says)
