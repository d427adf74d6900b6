-- The parts of a step, as the code makes them.
use Rattle.std.proofs.Common.{◌≡◌, ℕ, ◌+◌, ◌-◌, ◌≤◌, Bool, true, cond, ◌≢◌, List, ◌++◌, length, get_or, set, drop, replicate, sym, ap, ◌∙◌, ap₂, arith, get_or-set_other}
use Rattle.std.proofs.lemmas.List.{get_or-replicate, get_or-append_right, get_or-drop}
use mathlib.Core.Path.{fun_ext}
use Rattle.scale.specs.Laws.{Ops}
use Rattle.monitor.specs.Monitor.{Set, Cell, clause, kept, none, without, grown, absorb, lengthen, happen_row, happen_kept, launch_row, go_row, go_with, read_row, held, passed, begin, step_with}
use Rattle.monitor.specs.Layout.{mask, clauses, cells_of, viewed, cells_held, state_of}
use Rattle.monitor.specs.declared.steps.Held.{Held}
use Rattle.ftpl.specs.declared.formulas.EventList.{EventList}
use Rattle.ftpl.specs.declared.formulas.Slot.{Slot}
use Rattle.ftpl.specs.declared.formulas.Slot.TheVariants.{First, Second, Third, Fourth}
use Rattle.ftpl.specs.declared.formulas.Leaf.{Leaf}
use Rattle.ftpl.specs.declared.formulas.PerLeaf.{PerLeaf}
use Rattle.ftpl.specs.declared.formulas.Trace.{Trace}
use Rattle.ftpl.specs.declared.formulas.Core.{Core}
use Rattle.ftpl.specs.declared.formulas.Core.TheVariants.{Plain, Before, Until}
use Rattle.ftpl.specs.declared.formulas.Formula.{Formula}
use Rattle.monitor.proofs.Masks.{mask_small}

module _ {V : Type 0} (s : Ops V) where
  pub before_hit : {core : Core} {e : EventList} {t : Trace} (event : EventList → Bool) (w : Set → V) (q : V) {r u : V} {a : Set → V} → core ≡ Before e t → event e ≡ true → r ≡ s.both q u → u ≡ a none → a ≡ absorb s t w → r ≡ happen_kept s core event w q
  before_hit {core} {e} {t} event w q is hit f g h =
      f ∙ ap (s.both q) (g ∙ ap (λ (u : Set → V). u none) h)
      ∙ sym (ap (λ b. cond b (s.both q (absorb s t w none)) q) hit)
      ∙ sym (ap (λ k. happen_kept s k event w q) is)

  pub until_hit : {core : Core} {e : EventList} {t : Trace} (event : EventList → Bool) (w : Set → V) {a : Set → V} → core ≡ Until t e → event e ≡ true → a ≡ absorb s t w → a ≡ happen_row s core event w
  until_hit {core} {e} {t} event w is hit made =
      fun_ext (λ c. ap (λ (u : Set → V). u c) made ∙ sym (ap (λ b. cond b (absorb s t w c) (w c)) hit))
      ∙ sym (ap (λ k. happen_row s k event w) is)

  pub plain_read : {core : Core} {t : Trace} (w : Set → V) (q : V) {r : V} {a : Set → V} → core ≡ Plain t → r ≡ a none → a ≡ absorb s t w → r ≡ read_row s core w q
  plain_read w q is f g = f ∙ ap (λ (u : Set → V). u none) g ∙ sym (ap (λ k. read_row s k w q) is)

  pub lengthened_here : (j : Slot) (l : Leaf) (v : V) (w : Set → V) (c : Set) {r x y : V} → r ≡ grown s l v x y → x ≡ w c → y ≡ w (without j c) → c j ≡ true → r ≡ lengthen s j l v w c
  lengthened_here j l v w c e f g hit = e ∙ ap₂ (grown s l v) f g ∙ sym (ap (λ b. cond b (grown s l v (w c) (w (without j c))) (w c)) hit)

  pub row_made : (l : PerLeaf Leaf) (c : Core) (h : V) (y : PerLeaf V) (event : EventList → Bool) (w : Set → V) {w₀ w₁ w₂ w₃ w₄ w₅ : Set → V}
      → w₀ ≡ happen_row s c event w
      → w₁ ≡ launch_row s l h w₀
      → w₂ ≡ lengthen s First l.first y.first w₁
      → w₃ ≡ lengthen s Second l.second y.second w₂
      → w₄ ≡ lengthen s Third l.third y.third w₃
      → w₅ ≡ lengthen s Fourth l.fourth y.fourth w₄
      → w₅ ≡ go_row s l c h y event w
  row_made l c h y event w e₀ e₁ e₂ e₃ e₄ e₅ =
      e₅ ∙ ap (lengthen s Fourth l.fourth y.fourth) (e₄ ∙ ap (lengthen s Third l.third y.third) (e₃ ∙ ap (lengthen s Second l.second y.second) (e₂ ∙ ap (lengthen s First l.first y.first) (e₁ ∙ ap (launch_row s l h) e₀))))

  -- what is held stands on a part of a board
  pub same_state : (h : Held V) (xs : List V) → clauses s h.clauses.0 ≡ clauses s xs → h.kept ≡ get_or xs 16 s.top → h.fresh ≡ get_or xs 17 s.top → h.one ≡ get_or xs 18 s.top → h.two ≡ get_or xs 19 s.top → h.three ≡ get_or xs 20 s.top → state_of s h ≡ viewed s xs
  same_state h xs e k f o t u = λ i. record { cells = fun_ext at i; fresh = f i; one = o i; two = t i; three = u i }
    where
      at : (c : Cell) → cells_held s h c ≡ cells_of s xs c
      at (clause c) = ap (λ (w : Set → V). w c) e
      at kept = k

  -- what is held goes on by a position
  pub state_made : (f : Formula) (v : PerLeaf V) (event : EventList → Bool) (b h : Held V) {h₁ h₂ h₃ : V}
      → h₁ ≡ passed s f.first event b.one b.fresh
      → h₂ ≡ passed s f.second event b.two h₁
      → h₃ ≡ passed s f.third event b.three h₂
      → clauses s h.clauses.0 ≡ go_row s f.leaves f.core h₃ v event (clauses s b.clauses.0)
      → h.kept ≡ happen_kept s f.core event (clauses s b.clauses.0) b.kept
      → h.fresh ≡ s.top
      → h.one ≡ held s f.first b.one b.fresh → h.two ≡ held s f.second b.two h₁ → h.three ≡ held s f.third b.three h₂
      → state_of s h ≡ step_with s f v event (state_of s b)
  state_made f v event b h {h₃ = h₃} g₁ g₂ g₃ e k l o t u = λ i. record { cells = fun_ext at i; fresh = l i; one = o i; two = two_is i; three = three_is i }
    where
      last : h₃ ≡ passed s f.third event b.three (passed s f.second event b.two (passed s f.first event b.one b.fresh))
      last = cc

      at : (c : Cell) → cells_held s h c ≡ go_with s f.leaves f.core (passed s f.third event b.three (passed s f.second event b.two (passed s f.first event b.one b.fresh))) v event (cells_held s b) c
      at (clause c) = ap (λ (w : Set → V). w c) (e ∙ ap (λ x. go_row s f.leaves f.core x v event (clauses s b.clauses.0)) last)
      at kept = k

      two_is : h.two ≡ held s f.second b.two (passed s f.first event b.one b.fresh)
      two_is = cc

      three_is : h.three ≡ held s f.third b.three (passed s f.second event b.two (passed s f.first event b.one b.fresh))
      three_is = cc

  -- what is held before the first position
  pub begin_made : (h : Held V) (x : V) → h.clauses.0 ≡ replicate 16 x → x ≡ s.top → h.kept ≡ s.top → h.fresh ≡ s.bottom → h.one ≡ s.top → h.two ≡ s.top → h.three ≡ s.top → state_of s h ≡ begin s
  begin_made h x e t k f o u w = λ i. record { cells = fun_ext at i; fresh = f i; one = o i; two = u i; three = w i }
    where
      at : (c : Cell) → cells_held s h c ≡ s.top
      at (clause c) = ap (λ xs. clauses s xs c) e ∙ get_or-replicate 16 (mask c) x s.top (mask_small c) ∙ t
      at kept = k

  -- a part of a board behind what is stored
  pub stored_rest : (w old : List V) (k : ℕ) (a b c d e : V) → length w ≡ 16 → 21 ≤ k → get_or (set (set (set (set (set (w ++ drop 16 old) 16 a) 17 b) 18 c) 19 d) 20 e) k s.top ≡ get_or old k s.top
  stored_rest w old k a b c d e long h =
      let n₀ : k ≢ 20 = omega arith in
      let n₁ : k ≢ 19 = omega arith in
      let n₂ : k ≢ 18 = omega arith in
      let n₃ : k ≢ 17 = omega arith in
      let n₄ : k ≢ 16 = omega arith in
      let on : 16 + (k - 16) ≡ k = omega arith in
      get_or-set_other _ 20 k _ s.top n₀
      ∙ get_or-set_other _ 19 k _ s.top n₁
      ∙ get_or-set_other _ 18 k _ s.top n₂
      ∙ get_or-set_other _ 17 k _ s.top n₃
      ∙ get_or-set_other _ 16 k _ s.top n₄
      ∙ get_or-append_right w (drop 16 old) 16 k s.top long (omega arith)
      ∙ get_or-drop 16 old (k - 16) s.top
      ∙ ap (λ i. get_or old i s.top) on
