-- Events that were read, or the word at which they stopped.
use Rattle.std.proofs.Common.{◌≡◌, ℕ, ◌+◌, ◌<◌, ◌≤◌, false, List, [], ◌∷◌, ◌++◌, length, get_or, Some, None, codes, decimal, sym, refl, ap, ◌∙◌, subst, append-nil, arith}
use Rattle.std.specs.Str.{bytes_eq}
use Rattle.std.proofs.lemmas.Bool.{cond-true, cond-false}
use Rattle.ftpl.specs.declared.formulas.EventList.{EventList}
use Rattle.book_text.specs.Rules.{Text}
use Rattle.book_words.specs.Cuts.{part as mid}
use Rattle.book_text.proofs.Lexical.{spelt_says}
use Rattle.book_text.proofs.Steps.{mid_first, mid_one, stands, begun}
use Rattle.book_words.proofs.Parting.{part_join as mid_join}
use Rattle.formula_text.specs.declared.events.EventWord.{EventWord}
use Rattle.formula_text.specs.declared.events.EventWord.TheVariants.{Called, Normal, Exceptional, Terminates}
use Rattle.formula_text.specs.declared.events.Events.{Events}
use Rattle.formula_text.specs.Words.{event_text, event_words, event_of}
use Rattle.formula_text.specs.Rules.{no_events, with_event, Listing, a_last, a_more, ListSays}
use Rattle.formula_text.specs.States.{is_up_to, State, dead, bracket, operation, saying, listed, after, step, run, Stuck}
use Rattle.formula_text.specs.Took.{Lists, EventsTook, IsList, ListTook}
use Rattle.formula_text.proofs.Steps.{not_up_to, up_to, number_some, stuck_here, stuck_after, stuck_step}

event_some : (w : EventWord) → event_text w ≡ [] → ⊥
event_some Called e = let z : ◌≡◌ {A = ℕ} 0 1 = cc in omega arith
event_some Normal e = let z : ◌≡◌ {A = ℕ} 0 1 = cc in omega arith
event_some Exceptional e = let z : ◌≡◌ {A = ℕ} 0 1 = cc in omega arith
event_some Terminates e = let z : ◌≡◌ {A = ℕ} 0 1 = cc in omega arith

-- the words of an event lead on
at_operation : (n : ℕ) (st : State) (k : ℕ) → 1 ≤ k → k ≤ 63 → step n (operation st) (decimal k) ≡ saying st
unfolding step
at_operation n st k h l = cond-true (is_up_to 63 (decimal k)) (saying st) dead (up_to 63 k h l)

at_saying : (n : ℕ) (st : State) (w : EventWord) → step n (saying st) (event_text w) ≡ listed st
unfolding step
at_saying n st Called = refl
at_saying n st Normal = refl
at_saying n st Exceptional = refl
at_saying n st Terminates = refl

at_comma : (n : ℕ) (st : State) → step n (listed st) (codes ",") ≡ operation st
unfolding step
at_comma n st = refl

at_close : (n : ℕ) (st : State) → step n (listed st) (codes "]") ≡ st
unfolding step
at_close n st = refl

pub at_bracket : (n : ℕ) (st : State) → step n (bracket st) (codes "[") ≡ operation st
unfolding step
at_bracket n st = refl

event_run : (n : ℕ) (st : State) (k : ℕ) (w : EventWord) (u : List Text) → 1 ≤ k → k ≤ 63 → run n (operation st) (decimal k ∷ event_text w ∷ u) ≡ run n (listed st) u
event_run n st k w u h l = ap (λ z. run n (step n z (event_text w)) u) (at_operation n st k h l) ∙ ap (λ z. run n z u) (at_saying n st w)

listing_run : {e f : EventList} {p : List Text} → Listing e p f → (n : ℕ) (st : State) (u : List Text) → run n (operation st) (p ++ u) ≡ run n st u
listing_run (a_last k w h l) n st u = event_run n st k w (codes "]" ∷ u) h l ∙ ap (λ z. run n z u) (at_close n st)
listing_run (a_more k w {p} h l r) n st u = event_run n st k w (codes "," ∷ (p ++ u)) h l ∙ ap (λ z. run n z (p ++ u)) (at_comma n st) ∙ listing_run r n st u

-- the words of a list lead from the bracket to what follows the list
pub list_run : {e : EventList} {p : List Text} → ListSays e p → (n : ℕ) (st : State) (u : List Text) → run n (bracket st) (p ++ u) ≡ run n st u
list_run (q, r, w) n st u = ap (λ z. run n (bracket st) (z ++ u)) w ∙ ap (λ z. run n z (q ++ u)) (at_bracket n st) ∙ listing_run r n st u

some_events : (e : EventList) → (u : List Text) × Lists e u
some_events e = (decimal 1 ∷ event_text Called ∷ codes "]" ∷ [], (with_event e 1 Called, a_last 1 Called (omega arith) (omega arith)))

pub some_list : (u : List Text) × IsList u
some_list = let r = some_events no_events in (codes "[" ∷ r.0, (r.1.0, (r.0, r.1.1, refl)))

module _ (n : ℕ) (st : State) (e : EventList) (s : List Text) (a : ℕ) where
  pub no_operation : a ≤ length s → ((k : ℕ) → 1 ≤ k → k ≤ 63 → get_or s a [] ≡ decimal k → ⊥) → Stuck n (Lists e) (operation st) s a a
  unfolding step
  no_operation h f = stuck_here s a tt h (some_events e) (cond-false (is_up_to 63 (get_or s a [])) (saying st) dead (not_up_to 63 (get_or s a []) f))

  module _ (k : ℕ) (h : 1 ≤ k) (l : k ≤ 63) (q : get_or s a [] ≡ decimal k) where
    pub operation_inside : a < length s
    operation_inside = stands s a (decimal k) (number_some k (omega arith)) q

    pub no_saying : event_of (get_or s (a + 1) []) ≡ None → Stuck n (Lists e) (operation st) s a (a + 1)
    unfolding step
    no_saying o =
        stuck_step s a (a + 1) operation_inside (ap (step n (operation st)) q ∙ at_operation n st k h l)
        (λ p y. ([], subst (λ z. Lists e (z ∷ (p ++ []))) (sym q) (subst (λ z. Lists e (decimal k ∷ z)) (sym (append-nil p)) y)))
        (stuck_here {Q = λ p. Lists e (decimal k ∷ p)} s (a + 1) tt (omega (arith, operation_inside)) (event_text Called ∷ codes "]" ∷ [], (with_event e k Called, a_last k Called h l)) (ap (λ z. after z (listed st)) o))

    module _ (w : EventWord) (o : event_of (get_or s (a + 1) []) ≡ Some w) where
      said : get_or s (a + 1) [] ≡ event_text w
      said = spelt_says event_text event_words (get_or s (a + 1) []) w o

      pub saying_inside : a + 1 < length s
      saying_inside = stands s (a + 1) (event_text w) (event_some w) said

      two_words : mid s a (a + 2) ≡ decimal k ∷ event_text w ∷ []
      two_words =
          let m : a + 1 + 1 ≡ a + 2 = omega arith in
          mid_first s a (a + 2) (omega arith) (omega (arith, saying_inside)) ∙ (λ i. q i ∷ (ap (mid s (a + 1)) (sym m) ∙ mid_one s (a + 1) saying_inside ∙ ap (λ z. z ∷ []) said) i)

      two_run : run n (operation st) (mid s a (a + 2)) ≡ listed st
      two_run = ap (run n (operation st)) two_words ∙ event_run n st k w [] h l

      sign : (t : Text) → (t ≡ [] → ⊥) → get_or s (a + 2) [] ≡ t → mid s a (a + 3) ≡ decimal k ∷ event_text w ∷ t ∷ []
      sign t f g =
          let i = stands s (a + 2) t f g in
          let m : a + 2 + 1 ≡ a + 3 = omega arith in
          mid_join s a (a + 2) (a + 3) (omega arith) (omega arith) ∙ (λ j. two_words j ++ (ap (mid s (a + 2)) (sym m) ∙ mid_one s (a + 2) i ∙ ap (λ z. z ∷ []) g) j)

      pub no_sign : bytes_eq (get_or s (a + 2) []) (codes ",") ≡ false → bytes_eq (get_or s (a + 2) []) (codes "]") ≡ false → Stuck n (Lists e) (operation st) s a (a + 2)
      unfolding step
      no_sign c d =
          stuck_after s a (a + 2) (a + 2) (omega arith) two_run
          (λ p y. ([], subst (λ z. Lists e (z ++ (p ++ []))) (sym two_words) (subst (λ z. Lists e (decimal k ∷ event_text w ∷ z)) (sym (append-nil p)) y)))
          (stuck_here {Q = λ p. Lists e (decimal k ∷ event_text w ∷ p)} s (a + 2) tt (omega (arith, saying_inside)) (codes "]" ∷ [], (with_event e k w, a_last k w h l))
          (cond-false (bytes_eq (get_or s (a + 2) []) (codes ",")) _ _ c ∙ cond-false (bytes_eq (get_or s (a + 2) []) (codes "]")) st dead d))

      pub last_took : get_or s (a + 2) [] ≡ codes "]" → EventsTook e s a (record { list = with_event e k w; next = a + 3 })
      last_took g =
          let i = begun s (a + 2) 93 [] g in
          record {
            ahead = omega arith;
            inside = omega (arith, i);
            listing = subst (λ z. Listing e z (with_event e k w)) (sym (sign (codes "]") (λ z. let y : ◌≡◌ {A = ℕ} 0 1 = cc in omega arith) g)) (a_last k w h l);
          }

      module _ (g : get_or s (a + 2) [] ≡ codes ",") where
        three_words : mid s a (a + 3) ≡ decimal k ∷ event_text w ∷ codes "," ∷ []
        three_words = sign (codes ",") (λ z. let y : ◌≡◌ {A = ℕ} 0 1 = cc in omega arith) g

        pub more_took : (x : Events) → EventsTook (with_event e k w) s (a + 3) x → EventsTook e s a x
        more_took x y =
            record {
              ahead = omega (arith, y.ahead);
              inside = y.inside;
              listing = subst (λ z. Listing e z x.list) (sym (mid_join s a (a + 3) x.next (omega arith) (omega (arith, y.ahead)) ∙ ap (λ z. z ++ mid s (a + 3) x.next) three_words)) (a_more k w h l y.listing);
            }

        pub more_stuck : (z : ℕ) → Stuck n (Lists (with_event e k w)) (operation st) s (a + 3) z → Stuck n (Lists e) (operation st) s a z
        more_stuck z x =
            stuck_after s a (a + 3) z (omega arith)
            (ap (run n (operation st)) three_words ∙ event_run n st k w (codes "," ∷ []) h l ∙ at_comma n st)
            (λ p y. ([], subst (λ v. Lists e (v ++ (p ++ []))) (sym three_words) (subst (λ v. Lists e (decimal k ∷ event_text w ∷ codes "," ∷ v)) (sym (append-nil p)) (y.0, a_more k w h l y.1))))
            x

module _ (n : ℕ) (st : State) (s : List Text) (a : ℕ) where
  pub no_bracket : a ≤ length s → bytes_eq (get_or s a []) (codes "[") ≡ false → Stuck n IsList (bracket st) s a a
  unfolding step
  no_bracket h e = stuck_here s a tt h some_list (cond-false (bytes_eq (get_or s a []) (codes "[")) (operation st) dead e)

  module _ (g : get_or s a [] ≡ codes "[") where
    pub bracket_inside : a < length s
    bracket_inside = begun s a 91 [] g

    pub list_took : (x : Events) → EventsTook no_events s (a + 1) x → ListTook s a x
    list_took x y = record { ahead = omega (arith, y.ahead); inside = y.inside; says = (mid s (a + 1) x.next, y.listing, mid_first s a x.next (omega (arith, y.ahead)) y.inside ∙ ap (λ z. z ∷ mid s (a + 1) x.next) g) }

    pub list_stuck : (z : ℕ) → Stuck n (Lists no_events) (operation st) s (a + 1) z → Stuck n IsList (bracket st) s a z
    list_stuck z x =
        stuck_step s a z bracket_inside (ap (step n (bracket st)) g ∙ at_bracket n st)
        (λ p y. ([], (y.0, (p, y.1, (λ i. g i ∷ append-nil p i)))))
        x
