-- Formulas that were read up to the end of the line, or the word at which they stopped.
use Rattle.std.proofs.Common.{◌≡◌, ℕ, ◌+◌, ◌<◌, ◌≤◌, Bool, true, false, List, [], ◌∷◌, ◌++◌, length, get_or, codes, sym, refl, ap, ◌∙◌, subst, ⊎_elim, append_assoc, append-nil, arith}
use Rattle.std.specs.Str.{bytes_eq}
use Rattle.std.proofs.lemmas.Bool.{cases_lt, cond-false}
use Rattle.ftpl.specs.declared.formulas.Leaf.{Leaf}
use Rattle.ftpl.specs.declared.formulas.PerLeaf.{PerLeaf}
use Rattle.ftpl.specs.declared.formulas.Core.TheVariants as cores
use Rattle.book_text.specs.declared.parts.Stop.{Stop}
use Rattle.book_text.specs.declared.parts.Stop.TheVariants.{Wrong, Memory}
use Rattle.book_text.specs.Rules.{Text, loose}
use Rattle.book_words.specs.Cuts.{part as mid}
use Rattle.book_text.proofs.Steps.{mid_first, begun}
use Rattle.book_words.proofs.Parting.{part_join as mid_join, part_none as Mid-None}
use Rattle.formula_text.specs.declared.events.Events.{Events}
use Rattle.formula_text.specs.declared.places.Part.{Part}
use Rattle.formula_text.specs.declared.lines.Ending.{Ending}
use Rattle.formula_text.specs.Rules.{Tree, flat, size, four, one_tight, one_loose, TraceSays, just, before, until}
use Rattle.formula_text.specs.States.{State, dead, ended, ready, tracing, done, bracket, closing, step, run, Running, Stuck}
use Rattle.formula_text.specs.Took.{fill, Took, Tracks, Failed, IsList, ListTook, IsTrace, TraceTook, EndSays, Ends, EndTook}
use Rattle.formula_text.proofs.Steps.{run_append, stuck_here, stuck_after, stuck_step}
use Rattle.formula_text.proofs.Listed.{list_run}
use Rattle.formula_text.proofs.Traced.{complete, some_leaf, size_some}
use Rattle.formula_text.proofs.Grouped.{mid_more, stops_outside}

abbrev pub nl : List Text
nl = codes "\n" ∷ []

-- what goes on to the one goes on to the other
pub failed_on : (n : ℕ) (Q Q₁ : List Text → Type 0) (st : State) (s : List Text) (a : ℕ) (r : Stop) → ((p : List Text) → Q₁ p → (u : List Text) × Q (p ++ u)) → Failed n Q₁ st s a r → Failed n Q st s a r
failed_on n Q Q₁ st s a (Wrong e) f x =
    let u = x.onward.0 in
    let g = f (mid s a e ++ u) x.onward.1 in
    record { ahead = x.ahead; inside = x.inside; onward = (u ++ g.0, subst Q (append_assoc (mid s a e) u g.0) g.1); alive = x.alive; wrong = x.wrong }
failed_on n Q Q₁ st s a Memory f x = tt

-- two states that go on alike from a word
pub failed_as : (n : ℕ) (Q : List Text → Type 0) (st st₁ : State) (s : List Text) (a : ℕ) (r : Stop) → Running st → step n st (get_or s a []) ≡ step n st₁ (get_or s a []) → Failed n Q st₁ s a r → Failed n Q st s a r
failed_as n Q st st₁ s a Memory h q x = tt
failed_as n Q st st₁ s a (Wrong e) h q x = ⊎_elim onward here (cases_lt a e)
  where
    here : e ≤ a → Stuck n Q st s a e
    here k =
        let m : e ≡ a = omega (arith, x.ahead) in
        record {
          ahead = x.ahead;
          inside = x.inside;
          onward = x.onward;
          alive = subst (λ z. Running (run n st (mid s a z))) (sym m) (subst (λ z. Running (run n st z)) (sym (Mid-None s a)) h);
          wrong = subst (λ z. step n (run n st (mid s a z)) (get_or s z []) ≡ dead) (sym m) (ap (λ z. step n (run n st z) (get_or s a [])) (Mid-None s a) ∙ q ∙ sym (ap (λ z. step n (run n st₁ z) (get_or s a [])) (Mid-None s a)) ∙ subst (λ z. step n (run n st₁ (mid s a z)) (get_or s z []) ≡ dead) m x.wrong);
        }

    onward : a < e → Stuck n Q st s a e
    onward k =
        let m = mid_first s a e k x.inside in
        let j = ap (run n st) m ∙ ap (λ z. run n z (mid s (a + 1) e)) q ∙ sym (ap (run n st₁) m) in
        record { ahead = x.ahead; inside = x.inside; onward = x.onward; alive = subst Running (sym j) x.alive; wrong = ap (λ z. step n z (get_or s e [])) j ∙ x.wrong }

-- the slots that no leaf takes repeat the first
four_filled : (l : PerLeaf Leaf) (xs : List Leaf) → 0 < length xs → length xs ≤ 4 → fill l 0 xs ≡ four xs
four_filled l [] h k = absurd (omega arith)
four_filled l (a ∷ []) h k = refl
four_filled l (a ∷ b ∷ []) h k = refl
four_filled l (a ∷ b ∷ c ∷ []) h k = refl
four_filled l (a ∷ b ∷ c ∷ d ∷ []) h k = refl
four_filled l (a ∷ b ∷ c ∷ d ∷ e ∷ xs) h k = absurd (omega arith)

-- a whole trace
pub trace_took : (n : ℕ) (s : List Text) (a : ℕ) (l : PerLeaf Leaf) (x : Part) → Took loose n 8 s (record { at = a; count = 0; leaves = l }) x → TraceTook n s a x
trace_took n s a l x w =
    record {
      ahead = w.ahead;
      inside = w.inside;
      tree = w.tree;
      says = record { reads = w.reads; few = omega (arith, w.counted, w.few) };
      counted = omega (arith, w.counted);
      slots = w.slots;
      leaves = w.filled ∙ four_filled l (flat w.tree) (size_some w.tree) (omega (arith, w.counted, w.few));
      shut = w.shut;
    }

pub trace_failed : (n : ℕ) (b : Bool) (s : List Text) (a : ℕ) (r : Stop) → Failed n (Tracks n loose 8 0) (tracing b 0 0) s a r → Failed n (IsTrace n) (tracing b 0 0) s a r
trace_failed n b s a r f = failed_on n (IsTrace n) (Tracks n loose 8 0) (tracing b 0 0) s a r (λ p y. ([], (y.0, subst (TraceSays n y.0) (sym (append-nil p)) (record { reads = y.1; few = omega (arith, y.2) })))) f

pub some_trace : (n : ℕ) → 1 ≤ n → (u : List Text) × IsTrace n u
some_trace n h = let r = some_leaf n 8 0 h (omega arith) in (r.0, (r.1.0, record { reads = one_loose (one_tight r.1.1); few = omega (arith, r.1.2) }))

pub traced : (n : ℕ) (b : Bool) (f : Tree Leaf) (p u : List Text) → TraceSays n f p → run n (tracing b 0 0) (p ++ u) ≡ run n (done b 0 (size f)) u
traced n b f p u t = let m : 0 + size f ≡ size f = omega arith in complete t.reads b 0 0 refl (omega (arith, t.few)) u ∙ ap (λ z. run n (done b 0 z) u) m

module _ (n : ℕ) (s : List Text) (a : ℕ) (x : Part) (w : TraceTook n s a x) where
  trace_run : (b : Bool) → run n (tracing b 0 0) (mid s a x.place.at) ≡ done b 0 x.place.count
  trace_run b = ap (run n (tracing b 0 0)) (sym (append-nil (mid s a x.place.at))) ∙ traced n b w.tree (mid s a x.place.at) [] w.says ∙ ap (done b 0) (sym w.counted)

  trace_stuck : (b : Bool) → step n (done b 0 x.place.count) (get_or s x.place.at []) ≡ dead → Stuck n (IsTrace n) (tracing b 0 0) s a x.place.at
  trace_stuck b e =
      stuck_after s a x.place.at x.place.at (omega (arith, w.ahead)) (trace_run b)
      (λ p y. ([], subst (λ z. IsTrace n (mid s a x.place.at ++ (z ++ []))) (sym y) (subst (IsTrace n) (sym (append-nil (mid s a x.place.at))) (w.tree, w.says))))
      (stuck_here {Q = λ p. p ≡ []} s x.place.at tt w.inside ([], refl) e)

module _ (n : ℕ) (st : State) (s : List Text) (a : ℕ) (x : Events) (w : ListTook s a x) where
  pub list_stuck_run : run n (bracket st) (mid s a x.next) ≡ st
  list_stuck_run = ap (run n (bracket st)) (sym (append-nil (mid s a x.next))) ∙ list_run w.says n st []

  behind_list : Running st → step n st (get_or s x.next []) ≡ dead → Stuck n IsList (bracket st) s a x.next
  behind_list h e =
      stuck_after s a x.next x.next (omega (arith, w.ahead)) list_stuck_run
      (λ p y. ([], subst (λ z. IsList (mid s a x.next ++ (z ++ []))) (sym y) (subst IsList (sym (append-nil (mid s a x.next))) (x.list, w.says))))
      (stuck_here {Q = λ p. p ≡ []} s x.next h w.inside ([], refl) e)

-- a trace at the line's end, or before `until`
module _ (n : ℕ) (s : List Text) (a : ℕ) where
  pub plain_failed : (r : Stop) → Failed n (IsTrace n) (tracing true 0 0) s a r → Failed n (Ends n []) (tracing true 0 0) s a r
  plain_failed r f = failed_on n (Ends n []) (IsTrace n) (tracing true 0 0) s a r (λ p y. (nl, (just y.0, (p, y.1, refl)))) f

  module _ (x : Part) (w : TraceTook n s a x) where
    pub plain_took : get_or s x.place.at [] ≡ codes "\n" → EndTook n [] s a (record { core = cores.Plain x.trace; leaves = x.place.leaves; next = x.place.at + 1 })
    plain_took q =
        let i = begun s x.place.at 10 [] q in
        record {
          ahead = omega (arith, w.ahead);
          inside = omega (arith, i);
          form = just w.tree;
          says = (mid s a x.place.at, w.says, mid_more s a x.place.at (codes "\n") (omega (arith, w.ahead)) i q);
          core = ap just w.slots;
          leaves = w.leaves;
        }

    pub not_ended : bytes_eq (get_or s x.place.at []) (codes "\n") ≡ false → bytes_eq (get_or s x.place.at []) (codes "until") ≡ false → Stuck n (Ends n []) (tracing true 0 0) s a x.place.at
    not_ended q o = plain_failed (Wrong x.place.at) (trace_stuck n s a x w true (stops_outside n true x.place.count s x.place.at w.shut q (λ _. o)))

    module _ (q : get_or s x.place.at [] ≡ codes "until") where
      pub until_inside : x.place.at < length s
      until_inside = begun s x.place.at 117 (codes "ntil") q

      at_until : (k : ℕ) → step n (done true 0 k) (codes "until") ≡ bracket closing
      unfolding step
      at_until k = refl

      until_run : run n (tracing true 0 0) (mid s a (x.place.at + 1)) ≡ bracket closing
      until_run =
          ap (run n (tracing true 0 0)) (mid_more s a x.place.at (codes "until") (omega (arith, w.ahead)) until_inside q)
          ∙ run_append n (tracing true 0 0) (mid s a x.place.at) (codes "until" ∷ [])
          ∙ ap (λ z. step n z (codes "until")) (trace_run n s a x w true)
          ∙ at_until x.place.count

      pub until_words : (p : List Text) → mid s a (x.place.at + 1) ++ (p ++ nl) ≡ (mid s a x.place.at ++ (codes "until" ∷ p)) ++ nl
      until_words p =
          ap (λ z. z ++ (p ++ nl)) (mid_more s a x.place.at (codes "until") (omega (arith, w.ahead)) until_inside q)
          ∙ append_assoc (mid s a x.place.at) (codes "until" ∷ []) (p ++ nl)
          ∙ sym (append_assoc (mid s a x.place.at) (codes "until" ∷ p) nl)

      pub until_failed : (e : ℕ) → Stuck n IsList (bracket closing) s (x.place.at + 1) e → Stuck n (Ends n []) (tracing true 0 0) s a e
      until_failed e f =
          stuck_after s a (x.place.at + 1) e (omega (arith, w.ahead)) until_run
          (λ p y. (nl, (until w.tree y.0, (mid s a x.place.at ++ (codes "until" ∷ p), (mid s a x.place.at, p, w.says, y.1, refl), until_words p))))
          f

      module _ (y : Events) (v : ListTook s (x.place.at + 1) y) where
        at_closing : bytes_eq (get_or s y.next []) (codes "\n") ≡ false → step n closing (get_or s y.next []) ≡ dead
        unfolding step
        at_closing o = cond-false (bytes_eq (get_or s y.next []) (codes "\n")) ended dead o

        pub until_open : bytes_eq (get_or s y.next []) (codes "\n") ≡ false → Stuck n (Ends n []) (tracing true 0 0) s a y.next
        until_open o = until_failed y.next (behind_list n closing s (x.place.at + 1) y v tt (at_closing o))

        pub until_took : get_or s y.next [] ≡ codes "\n" → EndTook n [] s a (record { core = cores.Until x.trace y.list; leaves = x.place.leaves; next = y.next + 1 })
        until_took o =
            let i = begun s y.next 10 [] o in
            let p = mid s (x.place.at + 1) y.next in
            record {
              ahead = omega (arith, w.ahead, v.ahead);
              inside = omega (arith, i);
              form = until w.tree y.list;
              says = (mid s a x.place.at ++ (codes "until" ∷ p), (mid s a x.place.at, p, w.says, v.says, refl), mid_join s a (x.place.at + 1) (y.next + 1) (omega (arith, w.ahead)) (omega (arith, v.ahead)) ∙ ap (λ z. mid s a (x.place.at + 1) ++ z) (mid_more s (x.place.at + 1) y.next (codes "\n") (omega (arith, v.ahead)) i o) ∙ until_words p);
              core = ap (λ z. until z y.list) w.slots;
              leaves = w.leaves;
            }

-- what stands behind `before`
module _ (n : ℕ) (s : List Text) (a : ℕ) where
  pub before_list_failed : 1 ≤ n → (e : ℕ) → Stuck n IsList (bracket (tracing false 0 0)) s a e → Stuck n (Ends n (codes "before" ∷ [])) (bracket (tracing false 0 0)) s a e
  before_list_failed h e f =
      let t = some_trace n h in
      failed_on n (Ends n (codes "before" ∷ [])) IsList (bracket (tracing false 0 0)) s a (Wrong e)
      (λ p y. (t.0 ++ nl, (before y.0 t.1.0, (codes "before" ∷ (p ++ t.0), (p, t.0, y.1, t.1.1, refl), ap (λ z. codes "before" ∷ z) (sym (append_assoc p t.0 nl))))))
      f

  module _ (y : Events) (v : ListTook s a y) where
    pub before_failed : (r : Stop) → Failed n (IsTrace n) (tracing false 0 0) s y.next r → Failed n (Ends n (codes "before" ∷ [])) (bracket (tracing false 0 0)) s a r
    before_failed (Wrong e) f =
        stuck_after s a y.next e (omega (arith, v.ahead)) (list_stuck_run n (tracing false 0 0) s a y v)
        (λ p z. (nl, (before y.list z.0, (codes "before" ∷ (mid s a y.next ++ p), (mid s a y.next, p, v.says, z.1, refl), ap (λ z. codes "before" ∷ z) (sym (append_assoc (mid s a y.next) p nl))))))
        f
    before_failed Memory f = tt

    module _ (x : Part) (w : TraceTook n s y.next x) where
      pub before_open : bytes_eq (get_or s x.place.at []) (codes "\n") ≡ false → Stuck n (Ends n (codes "before" ∷ [])) (bracket (tracing false 0 0)) s a x.place.at
      before_open q = before_failed (Wrong x.place.at) (trace_stuck n s y.next x w false (stops_outside n false x.place.count s x.place.at w.shut q (λ z. let k : ◌≡◌ {A = ℕ} 0 1 = cc in absurd (omega arith))))

      pub before_took : get_or s x.place.at [] ≡ codes "\n" → EndTook n (codes "before" ∷ []) s a (record { core = cores.Before y.list x.trace; leaves = x.place.leaves; next = x.place.at + 1 })
      before_took q =
          let i = begun s x.place.at 10 [] q in
          let p = mid s y.next x.place.at in
          record {
            ahead = omega (arith, w.ahead, v.ahead);
            inside = omega (arith, i);
            form = before y.list w.tree;
            says = (codes "before" ∷ (mid s a y.next ++ p), (mid s a y.next, p, v.says, w.says, refl), ap (λ z. codes "before" ∷ z) (mid_join s a y.next (x.place.at + 1) (omega (arith, v.ahead)) (omega (arith, w.ahead)) ∙ ap (λ z. mid s a y.next ++ z) (mid_more s y.next x.place.at (codes "\n") (omega (arith, w.ahead)) i q) ∙ sym (append_assoc (mid s a y.next) p nl)));
            core = ap (before y.list) w.slots;
            leaves = w.leaves;
          }

-- the core
module _ (n j : ℕ) (s : List Text) (a : ℕ) where
  pub core_trace : (r : Stop) → bytes_eq (get_or s a []) (codes "after") ≡ false → bytes_eq (get_or s a []) (codes "before") ≡ false → Failed n (Ends n []) (tracing true 0 0) s a r → Failed n (Ends n []) (ready j) s a r
  unfolding step
  core_trace r h k f = failed_as n (Ends n []) (ready j) (tracing true 0 0) s a r tt (cond-false (bytes_eq (get_or s a []) (codes "after")) _ _ h ∙ cond-false (bytes_eq (get_or s a []) (codes "before")) _ _ k) f

  module _ (q : get_or s a [] ≡ codes "before") where
    pub before_inside : a < length s
    before_inside = begun s a 98 (codes "efore") q

    at_before : step n (ready j) (codes "before") ≡ bracket (tracing false 0 0)
    unfolding step
    at_before = refl

    pub core_before_failed : (r : Stop) → Failed n (Ends n (codes "before" ∷ [])) (bracket (tracing false 0 0)) s (a + 1) r → Failed n (Ends n []) (ready j) s a r
    core_before_failed (Wrong e) f = stuck_step s a e before_inside (ap (step n (ready j)) q ∙ at_before) (λ p y. ([], (y.0, subst (EndSays n y.0) (λ i. sym q i ∷ sym (append-nil p) i) y.1))) f
    core_before_failed Memory f = tt

    pub core_before_took : (x : Ending) → EndTook n (codes "before" ∷ []) s (a + 1) x → EndTook n [] s a x
    core_before_took x w =
        record {
          ahead = omega (arith, w.ahead);
          inside = w.inside;
          form = w.form;
          says = subst (EndSays n w.form) (sym (mid_first s a x.next (omega (arith, w.ahead)) w.inside ∙ ap (λ z. z ∷ mid s (a + 1) x.next) q)) w.says;
          core = w.core;
          leaves = w.leaves;
        }
