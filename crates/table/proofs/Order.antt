-- The ten rules in the order of their numbers.
use Rattle.std.proofs.Common.{◌≡◌, ℕ, suc, ◌<◌, List, [], ◌∷◌, Some, None, Option, sym, ap, subst, ◌∙◌, refl, arith, lit<}
use Rattle.std.specs.List.{slice_index_or, AllWithin, HoldsAt}
use Rattle.std.specs.Option.{MatchOption}
use Rattle.std.proofs.lemmas.List.{get_or-map}
use Rattle.std.proofs.lemmas.List.FromFn.{get_or-range_with_len}
use Rattle.host.specs.declared.rows.Row.{Row}
use Rattle.host.specs.declared.refusals.Rule.{Rule}
use Rattle.host.specs.declared.refusals.Rule.TheVariants.{KnownKind, OwnFields, NameForm, OwnerIsComponent, ParameterOwner, Range, LinkEnd, LinkOwners, OwnersEnd, OwnName}
use Rattle.host.specs.Numbers.{rule_number}
use Rattle.table.specs.Rules.{Keeps, WrongAt}

abbrev pub in_order : List Rule
in_order = KnownKind ∷ OwnFields ∷ NameForm ∷ OwnerIsComponent ∷ ParameterOwner ∷ Range ∷ LinkEnd ∷ LinkOwners ∷ OwnersEnd ∷ OwnName ∷ []

number_at : (i : ℕ) → i < 10 → rule_number (slice_index_or in_order i OwnName) ≡ suc i
number_at i h = sym (get_or-map rule_number in_order i OwnName 0 h) ∙ get_or-range_with_len 1 10 i 0 h ∙ omega arith

placed : (k : Rule) → (i : ℕ) × (i < 10) × (slice_index_or in_order i OwnName ≡ k)
placed KnownKind = (0, lit< tt, refl)
placed OwnFields = (1, lit< tt, refl)
placed NameForm = (2, lit< tt, refl)
placed OwnerIsComponent = (3, lit< tt, refl)
placed ParameterOwner = (4, lit< tt, refl)
placed Range = (5, lit< tt, refl)
placed LinkEnd = (6, lit< tt, refl)
placed LinkOwners = (7, lit< tt, refl)
placed OwnersEnd = (8, lit< tt, refl)
placed OwnName = (9, lit< tt, refl)

-- the first of them that is broken is the lowest
pub wrong_from_first : (t : List Row) (p : ℕ) (r : Option Rule) → MatchOption r (AllWithin (λ k. Keeps k t p) in_order 0 10) (λ x. (Keeps x t p → ⊥) × (i : ℕ) × (i < 10) × HoldsAt (λ k. k ≡ x) in_order i × AllWithin (λ k. Keeps k t p) in_order 0 i) → WrongAt t p r
wrong_from_first t p None h = λ k. let e = placed k in subst (λ j. Keeps j t p) e.2 (h e.0 OwnName (omega arith) e.1)
wrong_from_first t p (Some x) h = record {
  broken = h.0;
  lowest = λ j low.
      let e = placed j in
      let here : rule_number x ≡ suc h.1 = sym (ap rule_number (h.3 OwnName)) ∙ number_at h.1 h.2 in
      let there : rule_number j ≡ suc e.0 = sym (ap rule_number e.2) ∙ number_at e.0 e.1 in
      subst (λ k. Keeps k t p) e.2 (h.4 e.0 OwnName (omega arith) (omega (arith, low, here, there)));
}
