-- An accepted step: none of the conditions holds, and a lawful table stays lawful.
use Rattle.std.proofs.Common.{◌≡◌, ℕ, ◌<◌, ◌≤◌, ◌≢◌, List, ◌∷◌, length, Some, None, Ok, Err, Option, Result, sym, refl, ap, ◌∙◌, inl, inr, arith, lit≤}
use native.Mathlib.Decide.{ℕ_discrete}
use Rattle.host.specs.declared.rows.Row.{Row}
use Rattle.host.specs.declared.refusals.Refusal.{Refusal}
use Rattle.host.specs.declared.refusals.Rule.TheVariants.{OwnFields, Range, LinkEnd, LinkOwners}
use Rattle.std.proofs.lemmas.List.{get_or_past, length-set}
use Rattle.host.specs.Tables.{row_at, empty_row, Writes}
use Rattle.host.specs.Names.{IsName}
use Rattle.table.specs.declared.steps.Step.{Step}
use Rattle.table.specs.declared.steps.Step.TheVariants.{New, Provide, Require, Parameter, Delete, Add, Remove, Bind, Unbind, Start, Stop, Set}
use Rattle.table.specs.Climbing.{lt_or_ge}
use Rattle.table.specs.Conditions.{Condition, joinable}
use Rattle.table.specs.Places.{component, provided, required, parameter, none, kind_at, owner_at, link_at, InterfaceLinked, Borne}
use Rattle.table.specs.Rules.{FieldsFit, KeepsAll, Lawful}
use Rattle.table.specs.Refusals.{refuse_if, first, refusal, beyond, needed, sound, tied, running, in_use, loop, taken}
use Rattle.table.specs.Steps.{target, row_after, effect, fresh, with_owner, unless_refused, stepped, as_answer, answer}
use Rattle.table.proofs.Keeping.{Settles, keeps_on}
use Rattle.table.proofs.Settling.{touched, filling, moved, emptied, ends_apart, apart, filled, inside_kind, inside_link, link_provided, no_parameter_outside}

pub record Accepted (t : List Row) (s : Step) : Type 0 where
  pub inside : (beyond t s).holds → ⊥
  pub rows : (needed t s).holds
  pub right : (sound t s).holds
  pub untied : (tied t s).holds → ⊥
  pub stopped : (running t s).holds → ⊥
  pub unused : (in_use t s).holds → ⊥
  pub no_loop : (loop t s).holds → ⊥
  pub free : (taken t s).holds → ⊥

-- none of the pairs applies: the first does not, and none of the rest
unrefused : {P : Type 0} (d : Dec P) (e : Refusal) (later : Option Refusal) → refuse_if d e later ≡ None → (P → ⊥) × (later ≡ None)
unrefused (yes p) e later h = absurd (let z : ◌≡◌ {A = ℕ} 0 1 = cc in omega arith)
unrefused (no n) e later h = (n, h)

none_applies : (c : Condition) (e : Refusal) (rest : List (Condition × Refusal)) → first ((c, e) ∷ rest) ≡ None → (c.holds → ⊥) × (first rest ≡ None)
unfolding first
none_applies c e rest h = unrefused c.told e (first rest) h

certain : (c : Condition) → ((c.holds → ⊥) → ⊥) → c.holds
certain c h = elim c.told [ yes p ↦ p | no n ↦ absurd (h n) ]

pub accepted : (t : List Row) (s : Step) → refusal t s ≡ None → Accepted t s
unfolding refusal
accepted t s h0 =
    let (n1, h1) = none_applies _ _ _ h0 in
    let (n2, h2) = none_applies _ _ _ h1 in
    let (n3, h3) = none_applies _ _ _ h2 in
    let (n4, h4) = none_applies _ _ _ h3 in
    let (n5, h5) = none_applies _ _ _ h4 in
    let (n6, h6) = none_applies _ _ _ h5 in
    let (n7, h7) = none_applies _ _ _ h6 in
    let (n8, h8) = none_applies _ _ _ h7 in
    record { inside = n1; rows = certain (needed t s) n2; right = certain (sound t s) n3; untied = n4; stopped = n5; unused = n6; no_loop = n7; free = n8 }

below : (n a : ℕ) → (n ≤ a → ⊥) → a < n
below n a h = elim (lt_or_ge a n) [ inl low ↦ low | inr high ↦ absurd (h high) ]

-- an accepted step changes a place of the table
pub within : (t : List Row) (s : Step) → Accepted t s → target s < length t
within t (New a n) h = below _ a h.inside
within t (Provide a c n) h = below _ a (λ k. h.inside (inl k))
within t (Require a c n) h = below _ a (λ k. h.inside (inl k))
within t (Parameter a c n lo hi v) h = below _ a (λ k. h.inside (inl k))
within t (Delete a) h = below _ a h.inside
within t (Add a b) h = below _ a (λ k. h.inside (inl k))
within t (Remove a) h = below _ a h.inside
within t (Bind a b) h = below _ a (λ k. h.inside (inl k))
within t (Unbind a) h = below _ a h.inside
within t (Start a) h = below _ a h.inside
within t (Stop a) h = below _ a h.inside
within t (Set a v) h = below _ a h.inside

-- so the host does not refuse to write there
pub written : (t : List Row) (s : Step) → refusal t s ≡ None → (r : Result Unit Refusal) → Writes t (target s) r → r ≡ Ok tt
written t s e (Ok u) w = refl
written t s e (Err x) w = absurd (omega (arith, w.0, within t s (accepted t s e)))

fresh_fits : (k o n : ℕ) → FieldsFit (fresh k o n)
fresh_fits k o n = record { link = λ _. refl; lo = λ _. refl; hi = λ _. refl; value = λ _. refl; up = inl refl }

module _ (t : List Row) (small : length t ≤ 255) (law : (p : ℕ) → KeepsAll t p) where
  -- an interface of a component
  interface : (k a c n : ℕ) → k ≤ 4 → k ≢ 0 → k ≢ component → k ≢ parameter → a < length t → kind_at t a ≡ 0 → kind_at t c ≡ component → IsName n → (Borne t (length t) a c n → ⊥) → Settles t a (fresh k c n)
  interface k a c n few f d e w z o name free =
      filling t small law a w (fresh k c n) z few f (fresh_fits k c n) name (λ p. absurd (e p)) refl (inl o) (λ p. absurd (e p)) (λ p. absurd (d p)) free

  -- the interfaces of a component that stands alone have no links
  outer_unlinked : (a : ℕ) → owner_at t a ≡ none → (q : ℕ) → link_at t q ≢ none → (owner_at t q ≢ a) × (owner_at t (link_at t q) ≢ a)
  outer_unlinked a o q l =
      let j = law q LinkOwners l in
      let z : kind_at t none ≡ 0 = ap (λ x. x.kind) (get_or_past t none empty_row small) in
      let bad : owner_at t (owner_at t q) ≡ none → ⊥ = λ e. omega (arith, z, j.inside, ap (kind_at t) e) in
      (λ e. bad (ap (owner_at t) e ∙ o), λ e. bad (j.same ∙ ap (owner_at t) e ∙ o))

  free_unlinked : (a : ℕ) (w : a < length t) → (InterfaceLinked t a → ⊥) → (q : ℕ) → link_at t q ≢ none → (owner_at t q ≢ a) × (owner_at t (link_at t q) ≢ a)
  free_unlinked a w unused q l =
      let p = link_provided t small law a w q l in
      let m = law q LinkEnd l in
      let k = inside_link t small law a w q l in (
        λ e. unused (q, k, (e, inl p, inl l)),
        λ e. unused (link_at t q, inside_kind t small law a w _ (filled t small law a w _ required m (omega arith)), (e, inr m, inr (q, k, (apart t small law a w q _ provided required p m (omega arith), refl)))),
      )

  pub settles : (s : Step) → Accepted t s → Settles t (target s) (row_after s (row_at t (target s)))
  settles (New a n) h =
      filling t small law a (within t (New a n) h) (fresh component none n) h.rows (lit≤ tt) (omega arith) (fresh_fits component none n) h.right (λ k. absurd (omega (arith, k))) refl (inr (refl, refl)) (λ k. absurd (omega (arith, k))) (λ _. refl) h.free
  settles (Provide a c n) h = interface provided a c n (lit≤ tt) (omega arith) (omega arith) (omega arith) (within t (Provide a c n) h) h.rows.0 h.rows.1 h.right h.free
  settles (Require a c n) h = interface required a c n (lit≤ tt) (omega arith) (omega arith) (omega arith) (within t (Require a c n) h) h.rows.0 h.rows.1 h.right h.free
  settles (Parameter a c n lo hi v) h =
      filling t small law a (within t (Parameter a c n lo hi v) h) (row_after (Parameter a c n lo hi v) (row_at t a)) h.rows.0 (lit≤ tt) (omega arith)
      (record { link = λ _. refl; lo = λ d. absurd (d refl); hi = λ d. absurd (d refl); value = λ d. absurd (d refl); up = inl refl })
      h.right.0 (λ _. h.right.1) refl (inl h.rows.1) (λ _. h.untied) (λ k. absurd (omega (arith, k))) h.free
  settles (Delete a) h = emptied t small law a (within t (Delete a) h) (λ k. h.unused (inl k)) (λ k. h.unused (inr (inl k)))
  settles (Add a b) h =
      let w = within t (Add a b) h in
      let o : owner_at t a ≡ none = elim (ℕ_discrete (owner_at t a) none) [ yes e ↦ e | no d ↦ absurd (h.untied (inl d)) ] in
      moved t small law a w b h.rows.0 (inl h.rows.1) (λ q k e. h.untied (inr (q, inside_kind t small law a w q (filled t small law a w q parameter k (omega arith)), (k, e))))
      (outer_unlinked a o) (ends_apart t small law a w (with_owner b (row_at t a)) b h.no_loop) h.free
  settles (Remove a) h =
      let w = within t (Remove a) h in
      moved t small law a w none h.rows (inr refl) (no_parameter_outside t small law a w) (free_unlinked a w h.unused) (0, refl) h.free
  settles (Bind a b) h =
      let own = law a OwnFields in
      touched t small law a (within t (Bind a b) h) (row_after (Bind a b) (row_at t a)) refl refl refl (λ z. omega (arith, z, h.rows.0))
      (record { link = λ d. absurd (d h.rows.0); lo = own.lo; hi = own.hi; value = own.value; up = own.up })
      (λ k. absurd (omega (arith, k, h.rows.0))) (λ _. h.rows.1) (λ _. certain (joinable t a b) (λ n. h.untied (inr n)))
  settles (Unbind a) h =
      let own = law a OwnFields in
      touched t small law a (within t (Unbind a) h) (row_after (Unbind a) (row_at t a)) refl refl refl (λ z. omega (arith, z, h.rows))
      (record { link = λ _. refl; lo = own.lo; hi = own.hi; value = own.value; up = own.up })
      (λ k. absurd (omega (arith, k, h.rows))) (λ l. absurd (l refl)) (λ l. absurd (l refl))
  settles (Start a) h =
      let own = law a OwnFields in
      let e : link_at t a ≡ none = own.link (omega (arith, h.rows)) in
      touched t small law a (within t (Start a) h) (row_after (Start a) (row_at t a)) refl refl refl (λ z. omega (arith, z, h.rows))
      (record { link = own.link; lo = own.lo; hi = own.hi; value = own.value; up = inr (h.rows, refl) })
      (law a Range) (λ l. absurd (l e)) (λ l. absurd (l e))
  settles (Stop a) h =
      let own = law a OwnFields in
      let e : link_at t a ≡ none = own.link (omega (arith, h.rows)) in
      touched t small law a (within t (Stop a) h) (row_after (Stop a) (row_at t a)) refl refl refl (λ z. omega (arith, z, h.rows))
      (record { link = own.link; lo = own.lo; hi = own.hi; value = own.value; up = inl refl })
      (law a Range) (λ l. absurd (l e)) (λ l. absurd (l e))
  settles (Set a v) h =
      let own = law a OwnFields in
      let range = law a Range h.rows in
      let e : link_at t a ≡ none = own.link (omega (arith, h.rows)) in
      touched t small law a (within t (Set a v) h) (row_after (Set a v) (row_at t a)) refl refl refl (λ z. omega (arith, z, h.rows))
      (record { link = own.link; lo = own.lo; hi = own.hi; value = λ d. absurd (d h.rows); up = own.up })
      (λ _. record { low = range.low; above = h.right.0; below = h.right.1; high = range.high }) (λ l. absurd (l e)) (λ l. absurd (l e))

-- an accepted step keeps a lawful table lawful
pub step_lawful : (t : List Row) → length t ≤ 255 → (s : Step) → Lawful t → refusal t s ≡ None → Lawful (effect t s)
step_lawful t small s law e =
    let h = accepted t s e in
    record { keeps = keeps_on t (target s) (within t s h) (row_after s (row_at t (target s))) law.keeps (settles t small law.keeps s h) }

-- a tried step, accepted or not, keeps a lawful table lawful
pub stepped_lawful : (t : List Row) → length t ≤ 255 → (s : Step) → Lawful t → Lawful (stepped t s)
stepped_lawful t small s law = go (refusal t s) refl
  where
    go : (o : Option Refusal) → refusal t s ≡ o → Lawful (unless_refused o t (effect t s))
    go None e = step_lawful t small s law e
    go (Some x) e = law

-- and as many rows as there were
pub length_stepped : (t : List Row) (s : Step) → length (stepped t s) ≡ length t
length_stepped t s = go (refusal t s)
  where
    go : (o : Option Refusal) → length (unless_refused o t (effect t s)) ≡ length t
    go None = length-set t (target s) (row_after s (row_at t (target s)))
    go (Some x) = refl

none_refused : (o : Option Refusal) → Ok tt ≡ as_answer o → o ≡ None
none_refused None e = refl
none_refused (Some x) e = cc

-- a step that is permitted answers and leaves what its definition says
pub done : (t u : List Row) (s : Step) (r : Result Unit Refusal) → Ok tt ≡ answer t s → Writes t (target s) r → u ≡ effect t s → (r ≡ answer t s) × (u ≡ stepped t s)
done t u s r e w h =
    let n : refusal t s ≡ None = none_refused (refusal t s) e in
    (written t s n r w ∙ e, h ∙ ap (λ o. unless_refused o t (effect t s)) (sym n))
