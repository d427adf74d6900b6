-- Lists of events behind `after`, and what a whole line leads to.
use Rattle.std.proofs.Common.{◌≡◌, ℕ, ◌+◌, ◌<◌, ◌≤◌, Bool, true, false, ltb, List, [], ◌∷◌, ◌++◌, length, get_or, Some, None, codes, sym, refl, ap, ◌∙◌, subst, append_assoc, append-nil, arith}
use Rattle.std.proofs.lemmas.Bool.{cond-true, lt-ltb}
use Rattle.ftpl.specs.declared.formulas.EventList.{EventList}
use Rattle.ftpl.specs.declared.formulas.Leaf.{Leaf}
use Rattle.book_text.specs.declared.parts.Stop.{Stop}
use Rattle.book_text.specs.declared.parts.Stop.TheVariants.{Wrong, Memory}
use Rattle.book_text.specs.Rules.{Text, Level}
use Rattle.book_words.specs.Cuts.{part as mid}
use Rattle.book_text.proofs.Steps.{mid_first, begun}
use Rattle.book_words.proofs.Parting.{part_join as mid_join}
use Rattle.formula_text.specs.declared.events.Events.{Events}
use Rattle.formula_text.specs.declared.leaves.LeafWord.TheVariants as says
use Rattle.formula_text.specs.declared.lines.Ending.{Ending}
use Rattle.formula_text.specs.declared.lines.Line.{Line}
use Rattle.formula_text.specs.Rules.{Tree, size, Reads, a_leaf, a_group, one_tight, and_tight, one_loose, or_loose, ListSays, CoreOf, just, before, until, CoreSays, AftersSay, LineSays}
use Rattle.formula_text.specs.States.{dead, ended, ready, tracing, done, bracket, closing, ready_step, step, run, Stuck}
use Rattle.formula_text.specs.Took.{Failed, IsList, ListTook, Ends, EndTook, Lines, LineTook}
use Rattle.formula_text.proofs.Steps.{stuck_here, stuck_after, stuck_step}
use Rattle.formula_text.proofs.Listed.{list_run}
use Rattle.formula_text.proofs.Lined.{nl, failed_on, some_trace, traced, list_stuck_run}

after_step : (n j : ℕ) → j < 3 → step n (ready j) (codes "after") ≡ bracket (ready (j + 1))
unfolding step
after_step n j h = cond-true (ltb j 3) (bracket (ready (j + 1))) dead (lt-ltb j 3 h)

core_lines : (n j : ℕ) (p : List Text) → j ≤ 3 → Ends n [] p → Lines n j p
core_lines n j p h y = ([], y.0, record { afters = []; core = y.1.0; few = omega arith; after = refl; says = y.1.1; words = y.1.2 }, omega arith)

pub some_line : (n j : ℕ) → 1 ≤ n → j ≤ 3 → (u : List Text) × Lines n j u
some_line n j h k = let t = some_trace n h in (t.0 ++ nl, core_lines n j (t.0 ++ nl) k (just t.1.0, (t.0, t.1.1, refl)))

-- one more list
after_says : {n : ℕ} {e : EventList} {es : List EventList} {f : CoreOf Leaf} {q p : List Text} → ListSays e q → LineSays n es f p → length es ≤ 2 → LineSays n (e ∷ es) f (codes "after" ∷ (q ++ p))
after_says {q = q} l w h =
    record {
      afters = codes "after" ∷ (q ++ w.afters);
      core = w.core;
      few = omega arith;
      after = (q, w.afters, l, w.after, refl);
      says = w.says;
      words = ap (λ z. codes "after" ∷ z) (ap (λ z. q ++ z) w.words ∙ sym (append_assoc q w.afters (w.core ++ nl)));
    }

after_lines : (n j : ℕ) (e : EventList) (q p : List Text) → ListSays e q → Lines n (j + 1) p → Lines n j (codes "after" ∷ (q ++ p))
after_lines n j e q p l y = (e ∷ y.0, y.1, after_says l y.2 (omega (arith, y.3)), omega (arith, y.3))

module _ (n j : ℕ) (s : List Text) (a : ℕ) where
  pub line_ended : j ≤ 3 → (x : Ending) → EndTook n [] s a x → LineTook n j s a (record { formula = record { first = None; second = None; third = None; core = x.core; leaves = x.leaves }; next = x.next })
  unfolding core_lines
  line_ended h x w =
      let y = core_lines n j (mid s a x.next) h (w.form, w.says) in
      record {
        ahead = w.ahead;
        inside = w.inside;
        lists = [];
        form = w.form;
        says = y.2;
        means = record { first = refl; second = refl; third = refl; core = w.core; leaves = w.leaves };
        room = omega arith;
      }

  pub line_failed : j ≤ 3 → (r : Stop) → Failed n (Ends n []) (ready j) s a r → Failed n (Lines n j) (ready j) s a r
  line_failed h r f = failed_on n (Lines n j) (Ends n []) (ready j) s a r (λ p y. ([], subst (Lines n j) (sym (append-nil p)) (core_lines n j p h y))) f

  module _ (q : get_or s a [] ≡ codes "after") where
    pub after_inside : a < length s
    after_inside = begun s a 97 (codes "fter") q

    module _ (h : j < 3) where
      at_after : step n (ready j) (codes "after") ≡ bracket (ready (j + 1))
      at_after = after_step n j h

      pub lists_failed : 1 ≤ n → (e : ℕ) → Stuck n IsList (bracket (ready (j + 1))) s (a + 1) e → Stuck n (Lines n j) (ready j) s a e
      lists_failed k e f =
          let t = some_line n (j + 1) k (omega arith) in
          stuck_step s a e after_inside (ap (step n (ready j)) q ∙ at_after)
          (λ p y. (t.0, subst (λ z. Lines n j (z ∷ (p ++ t.0))) (sym q) (after_lines n j y.0 p t.0 y.1 t.1)))
          f

      module _ (y : Events) (v : ListTook s (a + 1) y) where
        after_words : mid s a y.next ≡ codes "after" ∷ mid s (a + 1) y.next
        after_words = mid_first s a y.next (omega (arith, v.ahead)) v.inside ∙ ap (λ z. z ∷ mid s (a + 1) y.next) q

        after_run : run n (ready j) (mid s a y.next) ≡ ready (j + 1)
        after_run = ap (run n (ready j)) after_words ∙ ap (λ z. run n z (mid s (a + 1) y.next)) at_after ∙ list_stuck_run n (ready (j + 1)) s (a + 1) y v

        pub rest_failed : (r : Stop) → Failed n (Lines n (j + 1)) (ready (j + 1)) s y.next r → Failed n (Lines n j) (ready j) s a r
        rest_failed (Wrong e) f =
            stuck_after s a y.next e (omega (arith, v.ahead)) after_run
            (λ p z. ([], subst (Lines n j) (λ i. sym after_words i ++ sym (append-nil p) i) (after_lines n j y.list (mid s (a + 1) y.next) p v.says z)))
            f
        rest_failed Memory f = tt

        pub rest_took : (x : Line) → LineTook n (j + 1) s y.next x → LineTook n j s a (record { formula = record { first = Some y.list; second = x.formula.first; third = x.formula.second; core = x.formula.core; leaves = x.formula.leaves }; next = x.next })
        rest_took x w =
            record {
              ahead = omega (arith, v.ahead, w.ahead);
              inside = w.inside;
              lists = y.list ∷ w.lists;
              form = w.form;
              says = subst (LineSays n (y.list ∷ w.lists) w.form) (sym (mid_join s a y.next x.next (omega (arith, v.ahead)) (omega (arith, w.ahead)) ∙ ap (λ z. z ++ mid s y.next x.next) after_words)) (after_says v.says w.says (omega (arith, w.room)));
              means = record { first = refl; second = w.means.first; third = w.means.second; core = w.means.core; leaves = w.means.leaves };
              room = omega (arith, w.room);
            }

pub too_many : (n : ℕ) (s : List Text) (a : ℕ) → 1 ≤ n → a ≤ length s → get_or s a [] ≡ codes "after" → Stuck n (Lines n 3) (ready 3) s a a
unfolding step
too_many n s a h k q = stuck_here s a tt k (some_line n 3 h (omega arith)) (ap (ready_step 3) q)

-- the words of a trace lead on as where `after` and `before` may not stand
ready_trace : {n d : ℕ} {l : Level} {p : List Text} {f : Tree Leaf} → Reads n l d p f → (j : ℕ) (u : List Text) → run n (ready j) (p ++ u) ≡ run n (tracing true 0 0) (p ++ u)
unfolding step
ready_trace (a_leaf m says.Always h k) j u = refl
ready_trace (a_leaf m says.Eventually h k) j u = refl
ready_trace (a_leaf m says.Never h k) j u = refl
ready_trace (a_group r) j u = refl
ready_trace (one_tight r) j u = ready_trace r j u
ready_trace {n} (and_tight {p = p} {q = q} r s) j u = ap (run n (ready j)) (append_assoc p (codes "&" ∷ q) u) ∙ ready_trace r j (codes "&" ∷ (q ++ u)) ∙ sym (ap (run n (tracing true 0 0)) (append_assoc p (codes "&" ∷ q) u))
ready_trace (one_loose r) j u = ready_trace r j u
ready_trace {n} (or_loose {p = p} {q = q} r s) j u = ap (run n (ready j)) (append_assoc p (codes "|" ∷ q) u) ∙ ready_trace r j (codes "|" ∷ (q ++ u)) ∙ sym (ap (run n (tracing true 0 0)) (append_assoc p (codes "|" ∷ q) u))

at_end : (n : ℕ) (b : Bool) (k : ℕ) → run n (done b 0 k) nl ≡ ended
unfolding step
at_end n b k = refl

at_before : (n j : ℕ) (u : List Text) → run n (ready j) (codes "before" ∷ u) ≡ run n (bracket (tracing false 0 0)) u
unfolding step
at_before n j u = refl

at_until : (n k : ℕ) (u : List Text) → run n (done true 0 k) (codes "until" ∷ u) ≡ run n (bracket closing) u
unfolding step
at_until n k u = refl

at_closing : (n : ℕ) → run n closing nl ≡ ended
unfolding step
at_closing n = refl

core_run : (n j : ℕ) (f : CoreOf Leaf) (p : List Text) → CoreSays n f p → run n (ready j) (p ++ nl) ≡ ended
core_run n j (just f) p w = ready_trace w.reads j nl ∙ traced n true f p nl w ∙ at_end n true (size f)
core_run n j (before e f) p (q, r, l, w, i) =
    ap (λ z. run n (ready j) (z ++ nl)) i
    ∙ at_before n j ((q ++ r) ++ nl)
    ∙ ap (run n (bracket (tracing false 0 0))) (append_assoc q r nl)
    ∙ list_run l n (tracing false 0 0) (r ++ nl)
    ∙ traced n false f r nl w
    ∙ at_end n false (size f)
core_run n j (until f e) p (q, r, w, l, i) =
    ap (λ z. run n (ready j) (z ++ nl)) i
    ∙ ap (run n (ready j)) (append_assoc q (codes "until" ∷ r) nl)
    ∙ ready_trace w.reads j (codes "until" ∷ (r ++ nl))
    ∙ traced n true f q (codes "until" ∷ (r ++ nl)) w
    ∙ at_until n (size f) (r ++ nl)
    ∙ list_run l n closing nl
    ∙ at_closing n

afters_run : (n j : ℕ) (es : List EventList) (p u : List Text) → j + length es ≤ 3 → AftersSay es p → run n (ready j) (p ++ u) ≡ run n (ready (j + length es)) u
afters_run n j [] p u h i = let m : j ≡ j + 0 = omega arith in ap (λ z. run n (ready j) (z ++ u)) i ∙ ap (λ z. run n (ready z) u) m
afters_run n j (e ∷ es) p u h (q, r, l, w, i) =
    let m : j + 1 + length es ≡ j + length (e ∷ es) = omega arith in
    ap (λ z. run n (ready j) (z ++ u)) i
    ∙ ap (λ z. run n z ((q ++ r) ++ u)) (after_step n j (omega arith))
    ∙ ap (run n (bracket (ready (j + 1)))) (append_assoc q r u)
    ∙ list_run l n (ready (j + 1)) (r ++ u)
    ∙ afters_run n (j + 1) es r u (omega arith) w
    ∙ ap (λ z. run n (ready z) u) m

-- the words of a line lead to its end
pub line_run : {n : ℕ} {es : List EventList} {f : CoreOf Leaf} {p : List Text} → LineSays n es f p → run n (ready 0) p ≡ ended
line_run {n} {es} {f} {p} w =
    ap (run n (ready 0)) w.words
    ∙ afters_run n 0 es w.afters (w.core ++ nl) (omega (arith, w.few)) w.after
    ∙ core_run n (0 + length es) f w.core w.says

-- leaves name properties, so that there is one
some_reads : {n d : ℕ} {l : Level} {p : List Text} {f : Tree Leaf} → Reads n l d p f → 1 ≤ n
some_reads (a_leaf m w h k) = omega arith
some_reads (a_group r) = some_reads r
some_reads (one_tight r) = some_reads r
some_reads (and_tight r s) = some_reads r
some_reads (one_loose r) = some_reads r
some_reads (or_loose r s) = some_reads r

pub some_core : (n : ℕ) (f : CoreOf Leaf) (p : List Text) → CoreSays n f p → 1 ≤ n
some_core n (just f) p w = some_reads w.reads
some_core n (before e f) p w = some_reads w.3.reads
some_core n (until f e) p w = some_reads w.2.reads
