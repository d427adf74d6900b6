-- How what one part took joins with what the next took, and how a stop in a part is a stop in the whole.
use Rattle.std.proofs.Common.{◌≡◌, ℕ, ◌+◌, ◌-◌, ◌<◌, ◌≤◌, Bool, true, false, cond, ◌&&◌, eqb, ltb, List, [], ◌∷◌, ◌++◌, length, get_or, codes, sym, refl, ap, ◌∙◌, subst, ⊎_elim, true≢false, append-nil, arith}
use lib.ListN.{length-map}
use Rattle.std.specs.Str.{bytes_eq}
use Rattle.std.proofs.lemmas.List.{get_or_past}
use Rattle.std.proofs.lemmas.Bool.{cases_lt, cond-false, and_parts, ltb-true, ne_eqb}
use Rattle.ftpl.specs.declared.properties.Tests.{Tests}
use Rattle.book_text.specs.declared.parts.Part.{Part}
use Rattle.book_text.specs.declared.parts.Stop.{Stop}
use Rattle.book_text.specs.declared.parts.Stop.TheVariants.{Wrong, Memory}
use Rattle.book_text.specs.declared.scopes.Scope.{Scope}
use Rattle.book_words.specs.declared.tokens.Token.{Token}
use Rattle.book_words.specs.Cuts.{part, words_of}
use Rattle.book_text.specs.Rules.{Text, turned, joined, either, leaves, form, Level, loose, tight, single, plain, Reads, a_group, a_plain, a_not, one_tight, and_tight, one_loose, or_loose}
use Rattle.book_text.specs.States.{State, dead, ended, turning, grouping, testing, done, step, run, Stuck, Running, group_step, test_step, join_step}
use Rattle.book_text.specs.Took.{Took, Failed, Shut, Unjoined}
use Rattle.book_words.proofs.Parting.{part_join, part_first, part_none, part_one}
use Rattle.book_text.proofs.Lexical.{same_true}
use Rattle.book_text.proofs.Complete.{not_run, join_and, join_or, open_run, run_append, start, complete}

pub mid_first : (s : List Text) (b e : ℕ) → b < e → e ≤ length s → part s b e ≡ get_or s b [] ∷ part s (b + 1) e
mid_first s b e h k = part_first [] s b e h k

pub mid_one : (s : List Text) (a : ℕ) → a < length s → part s a (a + 1) ≡ get_or s a [] ∷ []
mid_one s a h = part_one [] s a h

-- a sign at b between two parts
pub mid_sign : (s : List Text) (a b e : ℕ) (x : Text) → a ≤ b → b < e → e ≤ length s → get_or s b [] ≡ x → part s a e ≡ part s a b ++ (x ∷ part s (b + 1) e)
mid_sign s a b e x h k l q = part_join s a b e h (omega arith) ∙ ap (λ r. part s a b ++ r) (mid_first s b e k l ∙ ap (λ y. y ∷ part s (b + 1) e) q)

-- where a word that is not empty stands, the text goes on
pub stands : (s : List Text) (a : ℕ) (t : Text) → (t ≡ [] → ⊥) → get_or s a [] ≡ t → a < length s
stands s a t h e = ⊎_elim (λ p. p) (λ p. absurd (h (sym e ∙ get_or_past s a [] p))) (cases_lt a (length s))

pub stuck_here : {st : State} (s : List Text) (a : ℕ) → Running st → a ≤ length s → step st (get_or s a []) ≡ dead → Stuck st s a a
stuck_here {st} s a n h e =
    record {
      ahead = omega arith;
      inside = h;
      alive = subst Running (sym (ap (run st) (part_none s a))) n;
      wrong = ap (λ z. step (run st z) (get_or s a [])) (part_none s a) ∙ e;
    }

pub stuck_after : {st st₁ : State} (s : List Text) (a b e : ℕ) → a ≤ b → run st (part s a b) ≡ st₁ → Stuck st₁ s b e → Stuck st s a e
stuck_after {st} {st₁} s a b e h q x =
    let j = ap (run st) (part_join s a b e h x.ahead) ∙ run_append st (part s a b) (part s b e) ∙ ap (λ z. run z (part s b e)) q in
    record {
      ahead = omega (arith, x.ahead);
      inside = x.inside;
      alive = subst Running (sym j) x.alive;
      wrong = ap (λ z. step z (get_or s e [])) j ∙ x.wrong;
    }

pub stuck_step : {st st₁ : State} (s : List Text) (a e : ℕ) → a < length s → step st (get_or s a []) ≡ st₁ → Stuck st₁ s (a + 1) e → Stuck st s a e
stuck_step {st} s a e h q x = stuck_after s a (a + 1) e (omega arith) (ap (run st) (mid_one s a h) ∙ q) x

-- two states that go on alike from a word
pub stuck_as : {st st₁ : State} (s : List Text) (a e : ℕ) → Running st → step st (get_or s a []) ≡ step st₁ (get_or s a []) → Stuck st₁ s a e → Stuck st s a e
stuck_as {st} {st₁} s a e n q x = ⊎_elim onward here (cases_lt a e)
  where
    here : e ≤ a → Stuck st s a e
    here h = let m : e ≡ a = omega (arith, x.ahead) in subst (λ z. Stuck st s a z) (sym m) (stuck_here s a n (subst (λ z. z ≤ length s) m x.inside) (q ∙ sym (ap (λ z. step (run st₁ z) (get_or s a [])) (part_none s a)) ∙ subst (λ z. step (run st₁ (part s a z)) (get_or s z []) ≡ dead) m x.wrong))

    onward : a < e → Stuck st s a e
    onward h =
        let m = mid_first s a e h x.inside in
        let j = ap (run st) m ∙ ap (λ z. run z (part s (a + 1) e)) q ∙ sym (ap (run st₁) m) in
        record { ahead = x.ahead; inside = x.inside; alive = subst Running (sym j) x.alive; wrong = ap (λ z. step z (get_or s e [])) j ∙ x.wrong }

pub failed_as : (st st₁ : State) (s : List Text) (a : ℕ) (r : Stop) → Running st → step st (get_or s a []) ≡ step st₁ (get_or s a []) → Failed st₁ s a r → Failed st s a r
failed_as st st₁ s a (Wrong e) n q x = stuck_as s a e n q x
failed_as st st₁ s a Memory n q x = tt

pub failed_after : (st st₁ : State) (s : List Text) (a b : ℕ) (r : Stop) → a ≤ b → run st (part s a b) ≡ st₁ → Failed st₁ s b r → Failed st s a r
failed_after st st₁ s a b (Wrong e) h q x = stuck_after s a b e h q x
failed_after st st₁ s a b Memory h q x = tt

pub failed_step : (st st₁ : State) (s : List Text) (a : ℕ) (r : Stop) → a < length s → step st (get_or s a []) ≡ st₁ → Failed st₁ s (a + 1) r → Failed st s a r
failed_step st st₁ s a (Wrong e) h q x = stuck_step s a e h q x
failed_step st st₁ s a Memory h q x = tt

-- what a part took leads from its first state to its last
pub took_run : {l : Level} {sc : Scope} {n k a : ℕ} {s : List Text} {x : Part} → Took l sc n k s a x → n ≤ 8 → run (start l sc (8 - n) k) (part s a x.next) ≡ done sc (8 - n) x.count
took_run {l} {sc} {n} {k} {a} {s} {x} t h =
    let p = part s a x.next in
    ap (run (start l sc (8 - n) k)) (sym (append-nil p))
    ∙ complete t.reads (8 - n) k (omega arith) (omega (arith, t.counted, t.few)) []
    ∙ ap (done sc (8 - n)) (sym t.counted)

-- the sign stands at e, and a test may follow
pub record Joined (s : List Text) (e k : ℕ) (t : Text) : Type 0 where
  pub room : k < 16
  pub sign : get_or s e [] ≡ t
  pub inside : e < length s

pub joined_by : (s : List Text) (e k : ℕ) (b : ℕ) (t : Text) → (ltb k 16 && bytes_eq (get_or s e []) (b ∷ t)) ≡ true → Joined s e k (b ∷ t)
joined_by s e k b t h =
    let p = and_parts (ltb k 16) (bytes_eq (get_or s e []) (b ∷ t)) h in
    let q = same_true (get_or s e []) (b ∷ t) p.1 in
    record { room = ltb-true k 16 p.0; sign = q; inside = stands s e (b ∷ t) (λ z. let y : ◌≡◌ {A = ℕ} 0 1 = cc in omega arith) q }

-- how tests joined by a sign lead on to the next
run_on : (l : Level) {sc : Scope} {n k a : ℕ} {s : List Text} {x : Part} (t : Text) → Took l sc n k s a x → n ≤ 8 → Joined s x.next x.count t → step (done sc (8 - n) x.count) t ≡ turning sc (8 - n) x.count → run (start l sc (8 - n) k) (part s a (x.next + 1)) ≡ turning sc (8 - n) x.count
run_on l {sc} {n} {k} {a} {s} {x} t w h j e =
    ap (run (start l sc (8 - n) k)) (part_join s a x.next (x.next + 1) (omega (arith, w.ahead)) (omega arith))
    ∙ run_append (start l sc (8 - n) k) (part s a x.next) (part s x.next (x.next + 1))
    ∙ (λ i. run (took_run w h i) (mid_one s x.next j.inside i))
    ∙ ap (step (done sc (8 - n) x.count)) j.sign
    ∙ e

module _ {sc : Scope} {n k a : ℕ} (s : List Text) (x : Part) where
  pub failed_or : (r : Stop) → Took tight sc n k s a x → n ≤ 8 → Joined s x.next x.count (codes "|") → Failed (turning sc (8 - n) x.count) s (x.next + 1) r → Failed (turning sc (8 - n) k) s a r
  failed_or r w h j f = failed_after (turning sc (8 - n) k) (turning sc (8 - n) x.count) s a (x.next + 1) r (omega (arith, w.ahead)) (run_on tight (codes "|") w h j (join_or sc (8 - n) x.count [] j.room)) f

  pub failed_and : (r : Stop) → Took single sc n k s a x → n ≤ 8 → Joined s x.next x.count (codes "&") → Failed (turning sc (8 - n) x.count) s (x.next + 1) r → Failed (turning sc (8 - n) k) s a r
  failed_and r w h j f = failed_after (turning sc (8 - n) k) (turning sc (8 - n) x.count) s a (x.next + 1) r (omega (arith, w.ahead)) (run_on single (codes "&") w h j (join_and sc (8 - n) x.count [] j.room)) f

  pub took_or : (y : Part) (t : Tests) → Took tight sc n k s a x → Joined s x.next x.count (codes "|") → Took loose sc n x.count s (x.next + 1) y → form t ≡ either (form x.tests) (form y.tests) → Took loose sc n k s a (record { tests = t; next = y.next; count = y.count })
  took_or y t w j v e =
      record {
        ahead = omega (arith, w.ahead, v.ahead);
        inside = v.inside;
        reads = subst (λ f. Reads sc loose n (part s a y.next) f) (sym e) (subst (λ z. Reads sc loose n z (either (form x.tests) (form y.tests))) (sym (mid_sign s a x.next y.next (codes "|") (omega (arith, w.ahead)) (omega (arith, v.ahead)) v.inside j.sign)) (or_loose w.reads v.reads));
        counted = omega (arith, w.counted, v.counted, ap leaves e);
        more = omega (arith, w.more, v.more);
        few = v.few;
        shut = v.shut;
      }

  pub took_and : (y : Part) (t : Tests) → Took single sc n k s a x → Joined s x.next x.count (codes "&") → Took tight sc n x.count s (x.next + 1) y → form t ≡ joined (form x.tests) (form y.tests) → Took tight sc n k s a (record { tests = t; next = y.next; count = y.count })
  took_and y t w j v e =
      record {
        ahead = omega (arith, w.ahead, v.ahead);
        inside = v.inside;
        reads = subst (λ f. Reads sc tight n (part s a y.next) f) (sym e) (subst (λ z. Reads sc tight n z (joined (form x.tests) (form y.tests))) (sym (mid_sign s a x.next y.next (codes "&") (omega (arith, w.ahead)) (omega (arith, v.ahead)) v.inside j.sign)) (and_tight w.reads v.reads));
        counted = omega (arith, w.counted, v.counted, ap leaves e);
        more = omega (arith, w.more, v.more);
        few = v.few;
        shut = v.shut;
      }

  pub took_loose : Took tight sc n k s a x → Unjoined s x.next x.count (codes "|") → Took loose sc n k s a x
  took_loose w u = record { ahead = w.ahead; inside = w.inside; reads = one_loose w.reads; counted = w.counted; more = w.more; few = w.few; shut = (w.shut, u) }

  pub took_tight : Took single sc n k s a x → Unjoined s x.next x.count (codes "&") → Took tight sc n k s a x
  took_tight w u = record { ahead = w.ahead; inside = w.inside; reads = one_tight w.reads; counted = w.counted; more = w.more; few = w.few; shut = u }

  pub took_plain : Took plain sc n k s a x → Took single sc n k s a x
  took_plain w = record { ahead = w.ahead; inside = w.inside; reads = a_plain w.reads; counted = w.counted; more = w.more; few = w.few; shut = tt }

  pub took_not : (t : Tests) → get_or s a [] ≡ codes "!" → Took plain sc n k s (a + 1) x → form t ≡ turned (form x.tests) → Took single sc n k s a (record { tests = t; next = x.next; count = x.count })
  took_not t q w e =
      record {
        ahead = omega (arith, w.ahead);
        inside = w.inside;
        reads = subst (λ f. Reads sc single n (part s a x.next) f) (sym e) (subst (λ z. Reads sc single n z (turned (form x.tests))) (sym (mid_first s a x.next (omega (arith, w.ahead)) w.inside ∙ ap (λ z. z ∷ part s (a + 1) x.next) q)) (a_not w.reads));
        counted = w.counted ∙ ap (λ f. k + leaves f) (sym e);
        more = w.more;
        few = w.few;
        shut = tt;
      }

  pub took_group : 0 < n → get_or s a [] ≡ codes "(" → Took loose sc (n - 1) k s (a + 1) x → get_or s x.next [] ≡ codes ")" → Took plain sc n k s a (record { tests = x.tests; next = x.next + 1; count = x.count })
  took_group h q w z =
      let b = x.next in
      let inside : b < length s = stands s b (codes ")") (λ z. let y : ◌≡◌ {A = ℕ} 0 1 = cc in omega arith) z in
      let m : n - 1 + 1 ≡ n = omega arith in
      let e = mid_first s a (b + 1) (omega (arith, w.ahead)) (omega arith) ∙ (λ i. q i ∷ (mid_sign s (a + 1) b (b + 1) (codes ")") (omega (arith, w.ahead)) (omega arith) (omega arith) z ∙ ap (λ y. part s (a + 1) b ++ (codes ")" ∷ y)) (part_none s (b + 1))) i) in
      record {
        ahead = omega (arith, w.ahead);
        inside = omega arith;
        reads = subst (λ y. Reads sc plain n y (form x.tests)) (sym e) (subst (λ i. Reads sc plain i (codes "(" ∷ (part s (a + 1) b ++ (codes ")" ∷ []))) (form x.tests)) m (a_group w.reads));
        counted = w.counted;
        more = w.more;
        few = w.few;
        shut = tt;
      }

-- a word other than `!` or `(` is read as where these may not stand
pub as_group : (sc : Scope) (d k : ℕ) (t : Text) → bytes_eq t (codes "!") ≡ false → step (turning sc d k) t ≡ step (grouping sc d k) t
unfolding step
as_group sc d k t h = cond-false (bytes_eq t (codes "!")) (grouping sc d k) (group_step sc d k t) h

pub as_test : (sc : Scope) (d k : ℕ) (t : Text) → bytes_eq t (codes "(") ≡ false → step (grouping sc d k) t ≡ step (testing sc d k) t
unfolding step
as_test sc d k t h = cond-false (bytes_eq t (codes "(")) (cond (ltb d 8) (turning sc (d + 1) k) dead) (test_step sc d k t) h

pub too_deep : (sc : Scope) (k : ℕ) (t : Text) → t ≡ codes "(" → step (grouping sc 8 k) t ≡ dead
unfolding step
too_deep sc k t e = ap (group_step sc 8 k) e

unjoined : (sc : Scope) (d k : ℕ) (s : List Text) (e : ℕ) (t : Text) (rest : State) → Unjoined s e k t → rest ≡ dead → cond (bytes_eq (get_or s e []) t) (join_step sc d k) rest ≡ dead
unjoined sc d k s e t rest u r = by_cases (bytes_eq (get_or s e []) t) (ltb k 16) u
  where
    by_cases : (b c : Bool) → (c && b) ≡ false → cond b (cond c (turning sc d k) dead) rest ≡ dead
    by_cases true true h = absurd (true≢false h)
    by_cases true false h = refl
    by_cases false c h = r

-- inside a group only the closing parenthesis is left to follow
pub stops_inside : (sc : Scope) (d k : ℕ) (s : List Text) (e : ℕ) → 0 < d → Shut loose s e k → bytes_eq (get_or s e []) (codes ")") ≡ false → step (done sc d k) (get_or s e []) ≡ dead
unfolding step
stops_inside sc d k s e h u q =
    unjoined sc d k s e (codes "&") _ u.0
    (unjoined sc d k s e (codes "|") _ u.1
    (cond-false (bytes_eq (get_or s e []) (codes ")")) _ _ q ∙ ends (bytes_eq (get_or s e []) (codes "\n")) d h))
  where
    ends : (b : Bool) (d : ℕ) → 0 < d → cond b (cond (eqb d 0) ended dead) dead ≡ dead
    ends true d h = cond-false (eqb d 0) ended dead (ne_eqb d 0 (λ z. omega arith))
    ends false d h = refl

-- outside of parentheses only the end of the line is
pub stops_outside : (sc : Scope) (k : ℕ) (s : List Text) (e : ℕ) → Shut loose s e k → bytes_eq (get_or s e []) (codes "\n") ≡ false → step (done sc 0 k) (get_or s e []) ≡ dead
unfolding step
stops_outside sc k s e u q =
    unjoined sc 0 k s e (codes "&") _ u.0
    (unjoined sc 0 k s e (codes "|") _ u.1
    (closes (bytes_eq (get_or s e []) (codes ")")) _ (cond-false (bytes_eq (get_or s e []) (codes "\n")) _ _ q)))
  where
    closes : (b : Bool) (x : State) → x ≡ dead → cond b dead x ≡ dead
    closes true x h = refl
    closes false x h = h

module _ (sc : Scope) (n k a : ℕ) (s : List Text) where
  pub opened : 0 < n → n ≤ 8 → get_or s a [] ≡ codes "(" → step (grouping sc (8 - n) k) (get_or s a []) ≡ turning sc (8 - (n - 1)) k
  opened h l q =
      let m : 8 - n + 1 ≡ 8 - (n - 1) = omega arith in
      ap (step (grouping sc (8 - n) k)) q ∙ open_run sc (8 - n) k [] (omega arith) ∙ ap (λ d. turning sc d k) m

  pub failed_group : (r : Stop) → 0 < n → n ≤ 8 → get_or s a [] ≡ codes "(" → Failed (turning sc (8 - (n - 1)) k) s (a + 1) r → Failed (grouping sc (8 - n) k) s a r
  failed_group r h l q f = failed_step (grouping sc (8 - n) k) (turning sc (8 - (n - 1)) k) s a r (stands s a (codes "(") (λ z. let y : ◌≡◌ {A = ℕ} 0 1 = cc in omega arith) q) (opened h l q) f

  pub not_closed : (x : Part) → 0 < n → n ≤ 8 → get_or s a [] ≡ codes "(" → Took loose sc (n - 1) k s (a + 1) x → bytes_eq (get_or s x.next []) (codes ")") ≡ false → Stuck (grouping sc (8 - n) k) s a x.next
  not_closed x h l q w z =
      stuck_step s a x.next (stands s a (codes "(") (λ z. let y : ◌≡◌ {A = ℕ} 0 1 = cc in omega arith) q) (opened h l q)
      (stuck_after s (a + 1) x.next x.next (omega (arith, w.ahead)) (took_run w (omega arith))
      (stuck_here s x.next tt w.inside (stops_inside sc (8 - (n - 1)) x.count s x.next (omega arith) w.shut z)))

pub as_long : (ts : List Token) → length (words_of ts) ≡ length ts
as_long ts = length-map ts (λ t. t.word.now)

-- a sign stands within the text
pub begun : (s : List Text) (a b : ℕ) (t : Text) → get_or s a [] ≡ b ∷ t → a < length s
begun s a b t q = stands s a (b ∷ t) (λ z. let y : ◌≡◌ {A = ℕ} 0 1 = cc in omega arith) q

pub failed_turned : (sc : Scope) (d k : ℕ) (s : List Text) (a : ℕ) (r : Stop) → get_or s a [] ≡ codes "!" → Failed (grouping sc d k) s (a + 1) r → Failed (turning sc d k) s a r
failed_turned sc d k s a r q f = failed_step (turning sc d k) (grouping sc d k) s a r (begun s a 33 [] q) (ap (step (turning sc d k)) q ∙ not_run sc d k []) f
