-- The first word of a rule, and where a reader stops in the whole of it.
use Rattle.std.proofs.Common.{◌≡◌, ℕ, zero, suc, ◌-◌, ◌<◌, ◌≤◌, true, false, List, [], ◌∷◌, ◌++◌, length, get_or, take, drop, codes, decimal, sym, refl, ap, ◌∙◌, subst, ⊎_elim, true≢false, append-nil, arith, take-append-drop}
use Rattle.std.specs.Str.{bytes_eq}
use Rattle.std.proofs.lemmas.List.{take_all}
use Rattle.std.proofs.lemmas.Bool.{cases_lt, cond-true, cond-false}
use Rattle.ftpl.specs.declared.formulas.EventList.{EventList}
use Rattle.ftpl.specs.declared.formulas.Leaf.{Leaf}
use Rattle.book_text.specs.declared.parts.Stop.{Stop}
use Rattle.book_text.specs.declared.parts.Stop.TheVariants.{Wrong, Memory}
use Rattle.book_text.specs.Rules.{Text}
use Rattle.book_words.specs.Cuts.{part as mid}
use Rattle.book_text.proofs.Lexical.{same_true, by_test}
use Rattle.formula_text.specs.declared.lines.Line.{Line}
use Rattle.formula_text.specs.declared.leaves.LeafWord.TheVariants as says
use Rattle.formula_text.specs.Words.{unfronted, leaf_of}
use Rattle.formula_text.specs.Rules.{leaf, a_leaf, a_group, one_tight, one_loose, just, CoreOf, LineSays, Fronted, within, apart, RuleSays, FormulaSays}
use Rattle.formula_text.specs.States.{dead, ended, opening, fronting, ready, tracing, ready_step, front_step, step, run, Running}
use Rattle.formula_text.specs.Took.{Failed, Lines, LineTook}
use Rattle.formula_text.specs.Wrong.{IsRule, FirstWrong, Stopped, Front, first, second}
use Rattle.formula_text.proofs.Steps.{run_append, first_word, as_many}
use Rattle.formula_text.proofs.Afters.{line_run, some_core}

dead_run : (n : ℕ) (u : List Text) → run n dead u ≡ ended → ⊥
unfolding step
dead_run n [] e = let z : ◌≡◌ {A = ℕ} 0 1 = cc in omega arith
dead_run n (t ∷ u) e = dead_run n u e

differ : (s t : Text) → (s ≡ t → ⊥) → bytes_eq s t ≡ false
differ s t h = by_test (bytes_eq s t) (λ e. absurd (h (same_true s t e))) (λ e. e)

-- a word with `rule=` in front leads on as without
front_step_lem : (n : ℕ) (t : Text) → (t ≡ [] → ⊥) → (t ≡ codes "(" → ⊥) → step n opening (codes "rule=" ++ t) ≡ ready_step 0 t
unfolding step
front_step_lem n t h k = cond-false (bytes_eq t []) fronting _ (differ t [] h) ∙ cond-false (bytes_eq t (codes "(")) dead (ready_step 0 t) (differ t (codes "(") k)

empty_dead : (n : ℕ) (t : Text) (p : List Text) → t ≡ [] → run n (ready 0) (t ∷ p) ≡ ended → ⊥
unfolding step
empty_dead n t p h e = dead_run n p (ap (λ z. run n (ready_step 0 z) p) (sym h) ∙ e)

fronted_run : (n : ℕ) {q p : List Text} → Fronted q p → run n (ready 0) q ≡ ended → run n opening p ≡ ended
unfolding step
fronted_run n (within {t} {p} h) e = ap (λ z. run n z p) (front_step_lem n t (λ z. empty_dead n t p z e) h) ∙ e
fronted_run n apart e = e

rule_run : {n : ℕ} {es : List EventList} {f : CoreOf Leaf} {p : List Text} → RuleSays n es f p → run n opening p ≡ ended
rule_run {n} r = fronted_run n r.fronted (line_run r.says)

module _ (n : ℕ) (s : List Text) (e : ℕ) where
  wrong_from : 1 ≤ n → e ≤ length s → (u : List Text) × IsRule n (take e s ++ u) → step n (run n opening (take e s)) (get_or s e []) ≡ dead → (e ≡ length s → IsRule n s → ⊥) → FirstWrong n s e
  wrong_from m h o w l =
      record {
        inside = h;
        none = λ z. absurd (omega arith);
        before = λ _. o;
        never = λ u x. dead_run n u (sym (ap (λ z. run n z u) w) ∙ sym (run_append n opening (take e s) (get_or s e [] ∷ u)) ∙ rule_run x.2);
        lacking = l;
      }

  lacking_from : Running (run n opening (take e s)) → e ≡ length s → IsRule n s → ⊥
  lacking_from r q x = subst Running (ap (λ z. run n opening (take z s)) q ∙ ap (run n opening) (take_all (length s) s (omega arith)) ∙ rule_run x.2) r

pub no_properties : (n : ℕ) (s : List Text) → n ≡ 0 → FirstWrong n s 0
no_properties n s z =
    record {
      inside = omega arith;
      none = λ _. refl;
      before = λ h. absurd (omega arith);
      never = λ u x. let m = some_core n x.1 x.2.says.core x.2.says.says in omega arith;
      lacking = λ q x. let m = some_core n x.1 x.2.says.core x.2.says.says in omega arith;
    }

one_line : (n : ℕ) → 1 ≤ n → LineSays n [] (just (leaf (leaf_of says.Always 1))) (codes "always" ∷ decimal 1 ∷ codes "\n" ∷ [])
one_line n h = record { afters = []; core = codes "always" ∷ decimal 1 ∷ []; few = omega arith; after = refl; says = record { reads = one_loose (one_tight (a_leaf 1 says.Always (omega arith) h)); few = omega arith }; words = refl }

one_rule : (n : ℕ) → 1 ≤ n → (u : List Text) × IsRule n u
one_rule n h = (codes "rule=always" ∷ decimal 1 ∷ codes "\n" ∷ [], ([], just (leaf (leaf_of says.Always 1)), record { line = codes "always" ∷ decimal 1 ∷ codes "\n" ∷ []; says = one_line n h; fronted = within {t = codes "always"} no_sign }))
  where
    no_sign : codes "always" ≡ codes "(" → ⊥
    no_sign z = let y : ◌≡◌ {A = ℕ} 0 1 = cc in omega arith

group_line : (n : ℕ) → 1 ≤ n → LineSays n [] (just (leaf (leaf_of says.Always 1))) (codes "(" ∷ codes "always" ∷ decimal 1 ∷ codes ")" ∷ codes "\n" ∷ [])
group_line n h = record { afters = []; core = codes "(" ∷ codes "always" ∷ decimal 1 ∷ codes ")" ∷ []; few = omega arith; after = refl; says = record { reads = one_loose (one_tight (a_group {d = 7} (one_loose (one_tight (a_leaf 1 says.Always (omega arith) h))))); few = omega arith }; words = refl }

cut : (t : Text) → bytes_eq (take 5 t) (codes "rule=") ≡ true → t ≡ codes "rule=" ++ drop 5 t
cut t h = sym (take-append-drop 5 t) ∙ ap (λ z. z ++ drop 5 t) (same_true (take 5 t) (codes "rule=") h)

-- where the formula begins
module _ (n : ℕ) (s : List Text) (m : 1 ≤ n) where
  pub no_front : bytes_eq (take 5 (get_or s 0 [])) (codes "rule=") ≡ false → FirstWrong n s 0
  unfolding step
  no_front h = wrong_from n s 0 m (omega arith) (one_rule n m) (cond-false (bytes_eq (take 5 (get_or s 0 [])) (codes "rule=")) (front_step (drop 5 (get_or s 0 []))) dead h) (lacking_from n s 0 tt)

  pub front_group : bytes_eq (take 5 (get_or s 0 [])) (codes "rule=") ≡ true → get_or (unfronted s) 0 [] ≡ codes "(" → FirstWrong n s 0
  unfolding step
  front_group h q = wrong_from n s 0 m (omega arith) (one_rule n m) (cond-true (bytes_eq (take 5 (get_or s 0 [])) (codes "rule=")) (front_step (drop 5 (get_or s 0 []))) dead h ∙ ap front_step (first_word s ∙ q)) (lacking_from n s 0 tt)

pub front_first : (s : List Text) → bytes_eq (take 5 (get_or s 0 [])) (codes "rule=") ≡ true → bytes_eq (get_or (unfronted s) 0 []) (codes "(") ≡ false → bytes_eq (get_or (unfronted s) 0 []) [] ≡ false → Front s 0
front_first [] h k l = absurd (true≢false (sym h))
front_first (t ∷ p) h k l = subst (λ z. Front (z ∷ p) 0) (sym (cut t h)) (first (λ z. true≢false (sym (subst (λ y. bytes_eq y [] ≡ true) (sym z) refl) ∙ l)) (λ z. true≢false (sym (subst (λ y. bytes_eq y (codes "(") ≡ true) (sym z) refl) ∙ k)))

pub front_second : (s : List Text) → bytes_eq (take 5 (get_or s 0 [])) (codes "rule=") ≡ true → get_or (unfronted s) 0 [] ≡ [] → get_or (unfronted s) 1 [] ≡ codes "(" → Front s 1
front_second [] h k q = absurd (true≢false (sym h))
front_second (t ∷ []) h k q = let z : ◌≡◌ {A = ℕ} 0 1 = cc in absurd (omega arith)
front_second (t ∷ o ∷ p) h k q = subst (λ z. Front (z ∷ o ∷ p) 1) (sym (cut t h ∙ ap (λ z. codes "rule=" ++ z) k)) (subst (λ z. Front (codes "rule=" ∷ z ∷ p) 1) (sym q) second)

pub no_group : (n : ℕ) (s : List Text) → 1 ≤ n → bytes_eq (take 5 (get_or s 0 [])) (codes "rule=") ≡ true → get_or (unfronted s) 0 [] ≡ [] → bytes_eq (get_or (unfronted s) 1 []) (codes "(") ≡ false → FirstWrong n s 1
unfolding step
no_group n [] m h k q = absurd (true≢false (sym h))
no_group n (t ∷ p) m h k q =
    let i : t ≡ codes "rule=" = cut t h ∙ ap (λ z. codes "rule=" ++ z) k in
    let r : step n opening t ≡ fronting = ap (step n opening) i in
    wrong_from n (t ∷ p) 1 m (omega arith)
    (codes "(" ∷ codes "always" ∷ decimal 1 ∷ codes ")" ∷ codes "\n" ∷ [], ([], just (leaf (leaf_of says.Always 1)), record { line = codes "(" ∷ codes "always" ∷ decimal 1 ∷ codes ")" ∷ codes "\n" ∷ []; says = group_line n m; fronted = subst (λ z. Fronted (codes "(" ∷ codes "always" ∷ decimal 1 ∷ codes ")" ∷ codes "\n" ∷ []) (z ∷ codes "(" ∷ codes "always" ∷ decimal 1 ∷ codes ")" ∷ codes "\n" ∷ [])) (sym i) apart }))
    (ap (λ z. step n z (get_or (t ∷ p) 1 [])) r ∙ cond-false (bytes_eq (get_or (t ∷ p) 1 []) (codes "(")) (tracing true 1 0) dead q)
    (lacking_from n (t ∷ p) 1 (subst Running (sym r) tt))

mid_whole : (s : List Text) (e : ℕ) → mid s 0 e ≡ take e s
mid_whole s e = let n : e - 0 ≡ e = omega arith in ap (λ i. take i s) n

mid_rest : (t : Text) (p : List Text) (e : ℕ) → mid (t ∷ p) 1 (suc e) ≡ take e p
mid_rest t p e = let n : suc e - 1 ≡ e = omega arith in ap (λ i. take i p) n

-- what the reader sees from there on, and what stands in the whole
pub fronts : {s : List Text} {a : ℕ} → Front s a → (e : ℕ) → a < e → (u : List Text) → Fronted (mid (unfronted s) a e ++ u) (take e s ++ u)
fronts (first h k) zero l u = absurd (omega arith)
fronts (first {t} {p} h k) (suc e) l u = subst (λ z. Fronted (z ++ u) ((codes "rule=" ++ t) ∷ (take e p ++ u))) (sym (mid_whole (t ∷ p) (suc e))) (within k)
fronts second zero l u = absurd (omega arith)
fronts second (suc zero) l u = absurd (omega arith)
fronts (second {p}) (suc (suc e)) l u = subst (λ z. Fronted (z ++ u) (codes "rule=" ∷ codes "(" ∷ (take e p ++ u))) (sym (mid_rest [] (codes "(" ∷ p) (suc e))) apart

runs : (n : ℕ) {s : List Text} {a : ℕ} → Front s a → (e : ℕ) → a < e → run n opening (take e s) ≡ run n (ready 0) (mid (unfronted s) a e)
unfolding step
runs n (first h k) zero l = absurd (omega arith)
runs n (first {t} {p} h k) (suc e) l = ap (λ z. run n z (take e p)) (front_step_lem n t h k) ∙ sym (ap (run n (ready 0)) (mid_whole (t ∷ p) (suc e)))
runs n second zero l = absurd (omega arith)
runs n second (suc zero) l = absurd (omega arith)
runs n (second {p}) (suc (suc e)) l = sym (ap (run n (ready 0)) (mid_rest [] (codes "(" ∷ p) (suc e)))

later : {s : List Text} {a : ℕ} → Front s a → (e : ℕ) → a < e → get_or s e [] ≡ get_or (unfronted s) e []
later (first h k) zero l = absurd (omega arith)
later (first h k) (suc e) l = refl
later second zero l = absurd (omega arith)
later second (suc e) l = refl

here : (n : ℕ) {s : List Text} {a : ℕ} → 1 ≤ n → Front s a → step n (ready 0) (get_or (unfronted s) a []) ≡ dead → FirstWrong n s a
unfolding step
here n m (first {t} {p} h k) e = wrong_from n ((codes "rule=" ++ t) ∷ p) 0 m (omega arith) (one_rule n m) (front_step_lem n t h k ∙ e) (lacking_from n ((codes "rule=" ++ t) ∷ p) 0 tt)
here n m second e = absurd (subst Running e tt)

module _ (n : ℕ) (s : List Text) (a : ℕ) (m : 1 ≤ n) (f : Front s a) where
  pub front_failed : (r : Stop) → Failed n (Lines n 0) (ready 0) (unfronted s) a r → Stopped n s r
  front_failed (Wrong e) x =
      ⊎_elim
      (λ l. let r = runs n f e l in
      let o = x.onward in
      wrong_from n s e m (omega (arith, x.inside, as_many s))
      (o.0, (o.1.0, o.1.1, record { line = mid (unfronted s) a e ++ o.0; says = o.1.2; fronted = fronts f e l o.0 }))
      ((λ i. step n (r i) (later f e l i)) ∙ x.wrong)
      (lacking_from n s e (subst Running (sym r) x.alive)))
      (λ l. let q : e ≡ a = omega (arith, x.ahead) in
      subst (FirstWrong n s) (sym q) (here n m f (sym (ap (λ z. step n (run n (ready 0) z) (get_or (unfronted s) a [])) (ap (λ i. take i (drop a (unfronted s))) (none a))) ∙ subst (λ z. step n (run n (ready 0) (mid (unfronted s) a z)) (get_or (unfronted s) z []) ≡ dead) q x.wrong)))
      (cases_lt a e)
    where
      none : (a : ℕ) → a - a ≡ 0
      none a = omega arith
  front_failed Memory x = tt

  module _ (x : Line) (w : LineTook n 0 (unfronted s) a x) where
    rule : RuleSays n w.lists w.form (take x.next s ++ [])
    rule = record { line = mid (unfronted s) a x.next ++ []; says = subst (LineSays n w.lists w.form) (sym (append-nil (mid (unfronted s) a x.next))) w.says; fronted = fronts f x.next w.ahead [] }

    pub front_took : x.next ≡ length s → FormulaSays n x.formula s
    front_took q = (w.lists, w.form, subst (RuleSays n w.lists w.form) (append-nil (take x.next s) ∙ take_all x.next s (omega arith)) rule, w.means)

    pub front_behind : (x.next ≡ length s → ⊥) → FirstWrong n s x.next
    unfolding step
    front_behind q = wrong_from n s x.next m (omega (arith, w.inside, as_many s)) ([], (w.lists, w.form, rule)) (ap (λ z. step n z (get_or s x.next [])) (runs n f x.next w.ahead ∙ line_run w.says)) (λ z y. q z)
