-- What a row that takes another's place owes for a lawful table to stay lawful.
use Rattle.std.proofs.Common.{◌≡◌, ℕ, zero, suc, ◌<◌, true, ◌≢◌, ◌⊎◌, List, length, set, sym, ap, ◌∙◌, subst, inl, inr, arith}
use native.Mathlib.Decide.{ℕ_discrete}
use Rattle.std.proofs.lemmas.List.{get_or-set_same, get_or-set_other, length-set}
use Rattle.host.specs.declared.rows.Row.{Row}
use Rattle.host.specs.declared.refusals.Rule.{Rule}
use Rattle.host.specs.declared.refusals.Rule.TheVariants.{KnownKind, OwnFields, NameForm, OwnerIsComponent, ParameterOwner, Range, LinkEnd, LinkOwners, OwnersEnd, OwnName}
use Rattle.host.specs.Tables.{row_at, empty_row}
use Rattle.host.specs.Names.{IsName, same_name, same_name_sym}
use Rattle.table.specs.Places.{component, required, parameter, none, kind_at, name_at, owner_at, link_at, Filled, climb, Reaches, Owns, Bears, Joinable}
use Rattle.table.specs.Rules.{KindKnown, FieldsFit, InRange, Keeps, KeepsAll}

-- the row r at the place a of the table t
pub record Settles (t : List Row) (a : ℕ) (r : Row) : Type 0 where
  pub kind : KindKnown r
  pub fields : FieldsFit r
  pub name : r.kind ≢ 0 → IsName r.name
  pub range : r.kind ≡ parameter → InRange r.lo r.hi r.value
  -- its owner is a component, and those it owns are owned by one
  pub owner : r.kind ≢ 0 → (kind_at (set t a r) r.owner ≡ component) ⊎ ((r.kind ≡ component) × (r.owner ≡ none))
  pub owned : (q : ℕ) → q ≢ a → Filled t q → owner_at t q ≡ a → r.kind ≡ component
  -- components and parameters have no owner in common
  pub no_component : r.kind ≡ parameter → (q : ℕ) → q ≢ a → kind_at t q ≡ component → owner_at t q ≡ r.owner → ⊥
  pub no_parameter : r.kind ≡ component → (q : ℕ) → q ≢ a → kind_at t q ≡ parameter → owner_at t q ≡ r.owner → ⊥
  -- links from it and to it, and those of others
  pub link : r.link ≢ none → kind_at (set t a r) r.link ≡ required
  pub linked : (q : ℕ) → q ≢ a → link_at t q ≡ a → r.kind ≡ required
  pub joins : r.link ≢ none → Joinable (set t a r) a r.link
  pub joined : (q : ℕ) → q ≢ a → link_at t q ≢ none → Joinable (set t a r) q (link_at t q)
  pub ends : Reaches (set t a r) r.owner none
  pub alone : r.kind ≢ 0 → (q : ℕ) → q ≢ a → Bears t q r.owner r.name → ⊥

module _ (t : List Row) (a : ℕ) (within : a < length t) (r : Row) where
  pub at_place : row_at (set t a r) a ≡ r
  at_place = get_or-set_same t a r empty_row within

  pub elsewhere : (q : ℕ) → q ≢ a → row_at (set t a r) q ≡ row_at t q
  elsewhere q n = get_or-set_other t a q r empty_row n

  -- what holds of the new row holds at its place, and what held of another holds there
  put : (P : Row → Type 0) → P r → P (row_at (set t a r) a)
  put P = subst P (sym at_place)

  left : (P : Row → Type 0) (q : ℕ) → q ≢ a → P (row_at t q) → P (row_at (set t a r) q)
  left P q n = subst P (sym (elsewhere q n))

  was : (P : Row → Type 0) (q : ℕ) → q ≢ a → P (row_at (set t a r) q) → P (row_at t q)
  was P q n = subst P (elsewhere q n)

  bore : (q o n : ℕ) → q ≢ a → Bears (set t a r) q o n → Bears t q o n
  bore q o n d b = record {
    filled = was (λ x. x.kind ≢ 0) q d b.filled;
    owned = was (λ x. x.owner ≡ o) q d b.owned;
    named = was (λ x. same_name x.name n ≡ true) q d b.named;
  }

  module _ (law : (p : ℕ) → KeepsAll t p) (s : Settles t a r) where
    here_owner : r.kind ≡ parameter → Owns (set t a r) r.owner component → ⊥
    here_owner k (q, low, (c, o)) = elim (ℕ_discrete q a) [
      | yes e ↦ omega (arith, k, ap (λ x. x.kind) (sym at_place), subst (λ x. kind_at (set t a r) x ≡ component) e c)
      | no n ↦ s.no_component k q n (was (λ x. x.kind ≡ component) q n c) (was (λ x. x.owner ≡ r.owner) q n o)
    ]

    here : (k : Rule) → Keeps k (set t a r) a
    here KnownKind = put KindKnown s.kind
    here OwnFields = put FieldsFit s.fields
    here NameForm = put (λ x. x.kind ≢ 0 → IsName x.name) s.name
    here OwnerIsComponent = put (λ x. x.kind ≢ 0 → (kind_at (set t a r) x.owner ≡ component) ⊎ ((x.kind ≡ component) × (x.owner ≡ none))) s.owner
    here ParameterOwner = put (λ x. x.kind ≡ parameter → Owns (set t a r) x.owner component → ⊥) here_owner
    here Range = put (λ x. x.kind ≡ parameter → InRange x.lo x.hi x.value) s.range
    here LinkEnd = put (λ x. x.link ≢ none → kind_at (set t a r) x.link ≡ required) s.link
    here LinkOwners = put (λ x. x.link ≢ none → Joinable (set t a r) a x.link) s.joins
    here OwnersEnd = (suc s.ends.0, ap (λ x. climb (set t a r) s.ends.0 x.owner) at_place ∙ s.ends.1)
    here OwnName = put (λ x. x.kind ≢ 0 → (q : ℕ) → q < a → Bears (set t a r) q x.owner x.name → ⊥) (λ f q low b. let n : q ≢ a = omega arith in s.alone f q n (bore q r.owner r.name n b))

    -- a climb that ended ends
    still : (n p : ℕ) → climb t n p ≡ none → Reaches (set t a r) p none
    still zero p e = (0, e)
    still (suc n) p e = elim (ℕ_discrete p a) [
      | yes same ↦ subst (λ x. Reaches (set t a r) x none) (sym same) (here OwnersEnd)
      | no d ↦ let h = still n (owner_at t p) e in (suc h.0, ap (λ x. climb (set t a r) h.0 x.owner) (elsewhere p d) ∙ h.1)
    ]

    module _ (p : ℕ) (d : p ≢ a) where
      there_owner : Filled t p → (kind_at (set t a r) (owner_at t p) ≡ component) ⊎ ((kind_at t p ≡ component) × (owner_at t p ≡ none))
      there_owner f = elim (law p OwnerIsComponent f) [
        | inl c ↦ elim (ℕ_discrete (owner_at t p) a) [
          | yes e ↦ inl (subst (λ x. kind_at (set t a r) x ≡ component) (sym e) (put (λ x. x.kind ≡ component) (s.owned p d f e)))
          | no n ↦ inl (left (λ x. x.kind ≡ component) (owner_at t p) n c)
        ]
        | inr h ↦ inr h
      ]

      there_alone : kind_at t p ≡ parameter → Owns (set t a r) (owner_at t p) component → ⊥
      there_alone k (q, low, (c, o)) = elim (ℕ_discrete q a) [
        | yes e ↦ s.no_parameter (sym (ap (λ x. x.kind) at_place) ∙ subst (λ x. kind_at (set t a r) x ≡ component) e c) p d k (sym (subst (λ x. owner_at (set t a r) x ≡ owner_at t p) e o) ∙ ap (λ x. x.owner) at_place)
        | no n ↦ law p ParameterOwner k (q, subst (λ x. q < x) (length-set t a r) low, (was (λ x. x.kind ≡ component) q n c, was (λ x. x.owner ≡ owner_at t p) q n o))
      ]

      there_link : link_at t p ≢ none → kind_at (set t a r) (link_at t p) ≡ required
      there_link l = elim (ℕ_discrete (link_at t p) a) [
        | yes e ↦ subst (λ x. kind_at (set t a r) x ≡ required) (sym e) (put (λ x. x.kind ≡ required) (s.linked p d e))
        | no n ↦ left (λ x. x.kind ≡ required) (link_at t p) n (law p LinkEnd l)
      ]

      there_name : Filled t p → (q : ℕ) → q < p → Bears (set t a r) q (owner_at t p) (name_at t p) → ⊥
      there_name f q low b = elim (ℕ_discrete q a) [
        | yes e ↦
            let c : Bears (set t a r) a (owner_at t p) (name_at t p) = subst (λ x. Bears (set t a r) x (owner_at t p) (name_at t p)) e b in
            s.alone (subst (λ x. x.kind ≢ 0) at_place c.filled) p d
            (record {
              filled = f;
              owned = sym c.owned ∙ ap (λ x. x.owner) at_place;
              named = same_name_sym r.name (name_at t p) (subst (λ x. same_name x.name (name_at t p) ≡ true) at_place c.named);
            })
        | no n ↦ law p OwnName f q low (bore q (owner_at t p) (name_at t p) n b)
      ]

      there : (k : Rule) → Keeps k (set t a r) p
      there KnownKind = left KindKnown p d (law p KnownKind)
      there OwnFields = left FieldsFit p d (law p OwnFields)
      there NameForm = left (λ x. x.kind ≢ 0 → IsName x.name) p d (law p NameForm)
      there OwnerIsComponent = left (λ x. x.kind ≢ 0 → (kind_at (set t a r) x.owner ≡ component) ⊎ ((x.kind ≡ component) × (x.owner ≡ none))) p d there_owner
      there ParameterOwner = left (λ x. x.kind ≡ parameter → Owns (set t a r) x.owner component → ⊥) p d there_alone
      there Range = left (λ x. x.kind ≡ parameter → InRange x.lo x.hi x.value) p d (law p Range)
      there LinkEnd = left (λ x. x.link ≢ none → kind_at (set t a r) x.link ≡ required) p d there_link
      there LinkOwners = left (λ x. x.link ≢ none → Joinable (set t a r) p x.link) p d (s.joined p d)
      there OwnersEnd = let h = law p OwnersEnd in still h.0 p h.1
      there OwnName = left (λ x. x.kind ≢ 0 → (q : ℕ) → q < p → Bears (set t a r) q x.owner x.name → ⊥) p d there_name

    pub keeps_on : (p : ℕ) → KeepsAll (set t a r) p
    keeps_on p k = elim (ℕ_discrete p a) [ yes e ↦ subst (λ x. Keeps k (set t a r) x) (sym e) (here k) | no d ↦ there p d k ]
