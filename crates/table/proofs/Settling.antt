-- In a lawful table: a row changed but for its kind, name and owner; a component with another owner; an empty row filled; a row emptied.
use Rattle.std.proofs.Common.{◌≡◌, ℕ, zero, suc, ◌<◌, ◌≤◌, true, ◌≢◌, ◌⊎◌, List, length, set, sym, refl, ap, ◌∙◌, subst, inl, inr, arith, lit≤}
use native.Mathlib.Decide.{ℕ_discrete}
use Rattle.std.proofs.lemmas.List.{get_or_past}
use Rattle.std.proofs.lemmas.Bool.{cases_order}
use Rattle.host.specs.declared.rows.Row.{Row}
use Rattle.host.specs.declared.refusals.Rule.TheVariants.{KnownKind, OwnFields, NameForm, OwnerIsComponent, ParameterOwner, LinkEnd, LinkOwners, OwnersEnd, OwnName}
use Rattle.host.specs.Tables.{row_at, empty_row}
use Rattle.host.specs.Names.{IsName, same_name, same_name_sym}
use Rattle.table.specs.Climbing.{lt_or_ge}
use Rattle.table.specs.Places.{component, provided, required, parameter, none, kind_at, name_at, owner_at, link_at, Filled, climb, Reaches, Owns, OwnsAnother, LinkOfAnother, Borne, Joinable}
use Rattle.table.specs.Rules.{FieldsFit, InRange, KeepsAll}
use Rattle.table.specs.Steps.{with_owner}
use Rattle.table.proofs.Keeping.{Settles, at_place, elsewhere}

-- what two interfaces join by is the same in two tables
joins_too : (t u : List Row) (p q : ℕ) → owner_at u p ≡ owner_at t p → owner_at u q ≡ owner_at t q → owner_at u (owner_at t p) ≡ owner_at t (owner_at t p) → owner_at u (owner_at t q) ≡ owner_at t (owner_at t q) → kind_at u (owner_at t (owner_at t p)) ≡ component → Joinable t p q → Joinable u p q
joins_too t u p q e f g h k j = record {
  differ = λ d. j.differ (sym e ∙ d ∙ f);
  same = ap (owner_at u) e ∙ g ∙ j.same ∙ sym h ∙ sym (ap (owner_at u) f);
  inside = ap (kind_at u) (ap (owner_at u) e ∙ g) ∙ k;
}

module _ (t : List Row) (small : length t ≤ 255) (law : (p : ℕ) → KeepsAll t p) (a : ℕ) (within : a < length t) where
  pub past_all : (q : ℕ) → length t ≤ q → row_at t q ≡ empty_row
  past_all q = get_or_past t q empty_row

  a≢none : a ≢ none
  a≢none = omega arith

  pub inside_kind : (q : ℕ) → Filled t q → q < length t
  inside_kind q f = elim (lt_or_ge q (length t)) [ inl low ↦ low | inr high ↦ absurd (f (ap (λ x. x.kind) (past_all q high))) ]

  pub inside_link : (q : ℕ) → link_at t q ≢ none → q < length t
  inside_link q l = elim (lt_or_ge q (length t)) [ inl low ↦ low | inr high ↦ absurd (l (ap (λ x. x.link) (past_all q high))) ]

  -- rows of two kinds stand at two places
  pub apart : (p q m n : ℕ) → kind_at t p ≡ m → kind_at t q ≡ n → m ≢ n → p ≢ q
  apart p q m n h k d e = d (sym h ∙ ap (kind_at t) e ∙ k)

  pub filled : (q k : ℕ) → kind_at t q ≡ k → k ≢ 0 → Filled t q
  filled q k e d z = d (sym e ∙ z)

  owner_kind : (q : ℕ) → Filled t q → owner_at t q ≡ a → kind_at t a ≡ component
  owner_kind q f e = elim (law q OwnerIsComponent f) [ inl c ↦ ap (kind_at t) (sym e) ∙ c | inr h ↦ absurd (a≢none (sym e ∙ h.1)) ]

  link_kind : (q : ℕ) → link_at t q ≡ a → kind_at t a ≡ required
  link_kind q e = ap (kind_at t) (sym e) ∙ law q LinkEnd (λ n. a≢none (sym e ∙ n))

  -- a row with a link is a provided interface
  pub link_provided : (q : ℕ) → link_at t q ≢ none → kind_at t q ≡ provided
  link_provided q l = elim (ℕ_discrete (kind_at t q) provided) [ yes e ↦ e | no n ↦ absurd (l ((law q OwnFields).link n)) ]

  -- what is no component has one as owner
  owner_of : (q k : ℕ) → kind_at t q ≡ k → k ≢ 0 → k ≢ component → kind_at t (owner_at t q) ≡ component
  owner_of q k e d n = elim (law q OwnerIsComponent (filled q k e d)) [ inl c ↦ c | inr h ↦ absurd (n (sym e ∙ h.0)) ]

  pub no_parameter_outside : (q : ℕ) → kind_at t q ≡ parameter → owner_at t q ≡ none → ⊥
  no_parameter_outside q k e = omega (arith, owner_of q parameter k (omega arith) (omega arith), ap (kind_at t) e, ap (λ x. x.kind) (past_all none small))

  none_stays : (n : ℕ) → climb t n none ≡ none
  none_stays zero = refl
  none_stays (suc n) = ap (λ x. climb t n x.owner) (past_all none small) ∙ none_stays n

  module _ (r : Row) where
    abbrev u : List Row
    u = set t a r

    same_field : (f : Row → ℕ) → f r ≡ f (row_at t a) → (q : ℕ) → f (row_at u q) ≡ f (row_at t q)
    same_field f e q = elim (ℕ_discrete q a) [ yes s ↦ subst (λ x. f (row_at u x) ≡ f (row_at t x)) (sym s) (ap f (at_place t a within r) ∙ e) | no n ↦ ap f (elsewhere t a within r q n) ]

    same_owner : (q : ℕ) → q ≢ a → owner_at u q ≡ owner_at t q
    same_owner q n = ap (λ x. x.owner) (elsewhere t a within r q n)

    -- a climb with the same owners, or one that does not meet a, is the same
    climb_same : ((q : ℕ) → owner_at u q ≡ owner_at t q) → (n p : ℕ) → climb u n p ≡ climb t n p
    climb_same e zero p = refl
    climb_same e (suc n) p = ap (climb u n) (e p) ∙ climb_same e n (owner_at t p)

    climb_apart : (n p : ℕ) → (Reaches t p a → ⊥) → climb u n p ≡ climb t n p
    climb_apart zero p h = refl
    climb_apart (suc n) p h = ap (climb u n) (same_owner p (λ e. h (0, e))) ∙ climb_apart n (owner_at t p) (λ m. h (suc m.0, m.1))

    pub ends_apart : (p : ℕ) → (Reaches t p a → ⊥) → Reaches u p none
    ends_apart p h = let e = law p OwnersEnd in (e.0, climb_apart e.0 p h ∙ e.1)

    -- a link none of whose ends and owners is a
    joined_apart : (q : ℕ) → q ≢ a → link_at t q ≢ none → link_at t q ≢ a → owner_at t q ≢ a → owner_at t (link_at t q) ≢ a → kind_at u (owner_at t (owner_at t q)) ≡ component → Joinable u q (link_at t q)
    joined_apart q n l m o p k = joins_too t u q (link_at t q) (same_owner q n) (same_owner _ m) (same_owner _ o) (same_owner _ p) k (law q LinkOwners l)

    -- the row keeps kind, name and owner
    pub touched : r.kind ≡ kind_at t a → r.name ≡ name_at t a → r.owner ≡ owner_at t a → Filled t a → FieldsFit r → (r.kind ≡ parameter → InRange r.lo r.hi r.value) → (r.link ≢ none → kind_at t r.link ≡ required) → (r.link ≢ none → Joinable t a r.link) → Settles t a r
    touched ek en eo f fields range link joins =
        let owners : (q : ℕ) → owner_at u q ≡ owner_at t q = same_field (λ x. x.owner) eo in
        let kinds : (q : ℕ) → kind_at u q ≡ kind_at t q = same_field (λ x. x.kind) ek in
        let both : (p q : ℕ) → Joinable t p q → Joinable u p q = λ p q j. joins_too t u p q (owners p) (owners q) (owners _) (owners _) (kinds _ ∙ j.inside) j in
        record {
          kind = record { known = subst (λ x. x ≤ 4) (sym ek) (law a KnownKind).known; empty = λ e. absurd (f (sym ek ∙ e)) };
          fields = fields;
          name = λ _. subst IsName (sym en) (law a NameForm f);
          range = range;
          owner = λ _. elim (law a OwnerIsComponent f) [ inl c ↦ inl (kinds _ ∙ ap (kind_at t) eo ∙ c) | inr h ↦ inr (ek ∙ h.0, eo ∙ h.1) ];
          owned = λ q n g e. ek ∙ owner_kind q g e;
          no_component = λ k q n c o. law a ParameterOwner (sym ek ∙ k) (q, inside_kind q (filled q component c (omega arith)), (c, o ∙ eo));
          no_parameter = λ k q n c o. law q ParameterOwner c (a, within, (sym ek ∙ k, sym eo ∙ sym o));
          link = λ l. kinds _ ∙ link l;
          linked = λ q n e. ek ∙ link_kind q e;
          joins = λ l. both a r.link (joins l);
          joined = λ q n l. both q (link_at t q) (law q LinkOwners l);
          ends = let e = law r.owner OwnersEnd in (e.0, climb_same owners e.0 r.owner ∙ e.1);
          alone = λ _ q n b. elim (cases_order q a) [
            | inl e ↦ absurd (n e)
            | inr w ↦ elim w [
              | inl low ↦ law a OwnName f q low (record { filled = b.filled; owned = b.owned ∙ eo; named = subst (λ x. same_name (name_at t q) x ≡ true) en b.named })
              | inr high ↦ law q OwnName b.filled a high (record { filled = f; owned = sym eo ∙ sym b.owned; named = same_name_sym (name_at t q) (name_at t a) (subst (λ x. same_name (name_at t q) x ≡ true) en b.named) })
            ]
          ];
        }

    -- the place was empty
    never : kind_at t a ≡ 0 → (n p : ℕ) → Filled t p → climb t n p ≢ a
    never z zero p f e = f (ap (kind_at t) e ∙ z)
    never z (suc n) p f e = elim (law p OwnerIsComponent f) [
      | inl c ↦ never z n (owner_at t p) (filled (owner_at t p) component c (omega arith)) e
      | inr h ↦ a≢none (sym e ∙ ap (climb t n) h.1 ∙ none_stays n)
    ]

    pub filling : kind_at t a ≡ 0 → r.kind ≤ 4 → r.kind ≢ 0 → FieldsFit r → IsName r.name → (r.kind ≡ parameter → InRange r.lo r.hi r.value) → r.link ≡ none → (kind_at t r.owner ≡ component) ⊎ ((r.kind ≡ component) × (r.owner ≡ none)) → (r.kind ≡ parameter → Owns t r.owner component → ⊥) → (r.kind ≡ component → r.owner ≡ none) → (Borne t (length t) a r.owner r.name → ⊥) → Settles t a r
    filling z few f fields name range l owner no_component no_parameter free =
        let far : (q k : ℕ) → kind_at t q ≡ k → k ≢ 0 → q ≢ a = λ q k e d. apart q a k 0 e z d in
        let one : component ≢ 0 = omega arith in
        record {
          kind = record { known = few; empty = λ e. absurd (f e) };
          fields = fields;
          name = λ _. name;
          range = range;
          owner = λ _. elim owner [ inl c ↦ inl (ap (λ x. x.kind) (elsewhere t a within r _ (far _ component c one)) ∙ c) | inr h ↦ inr h ];
          owned = λ q n g e. absurd (omega (arith, z, owner_kind q g e));
          no_component = λ k q n c o. no_component k (q, inside_kind q (filled q component c one), (c, o));
          no_parameter = λ k q n c o. no_parameter_outside q c (o ∙ no_parameter k);
          link = λ n. absurd (n l);
          linked = λ q n e. absurd (omega (arith, z, link_kind q e));
          joins = λ n. absurd (n l);
          joined = λ q n m.
              let p = link_provided q m in
              let w = law q LinkEnd m in
              let inside = (law q LinkOwners m).inside in
              joined_apart q n m (far _ required w (omega arith)) (far _ component (owner_of q provided p (omega arith) (omega arith)) one) (far _ component (owner_of _ required w (omega arith) (omega arith)) one)
              (ap (λ x. x.kind) (elsewhere t a within r _ (far _ component inside one)) ∙ inside);
          ends = elim owner [ inl c ↦ ends_apart r.owner (λ h. never z h.0 r.owner (filled _ component c one) h.1) | inr h ↦ (0, h.1) ];
          alone = λ _ q n b. free (q, inside_kind q b.filled, (n, b));
        }

  -- a component gets another owner
  module _ (o : ℕ) where
    pub moved : kind_at t a ≡ component → (kind_at t o ≡ component) ⊎ (o ≡ none) → ((q : ℕ) → kind_at t q ≡ parameter → owner_at t q ≡ o → ⊥) → ((q : ℕ) → link_at t q ≢ none → (owner_at t q ≢ a) × (owner_at t (link_at t q) ≢ a)) → Reaches (set t a (with_owner o (row_at t a))) o none → (Borne t (length t) a o (name_at t a) → ⊥) → Settles t a (with_owner o (row_at t a))
    moved c owner no_parameter unlinked ends free =
        let r : Row = with_owner o (row_at t a) in
        let f : Filled t a = filled a component c (omega arith) in
        let own : FieldsFit (row_at t a) = law a OwnFields in
        let l : link_at t a ≡ none = own.link (omega (arith, c)) in
        let kinds : (q : ℕ) → kind_at (set t a r) q ≡ kind_at t q = same_field r (λ x. x.kind) refl in
        record {
          kind = record { known = (law a KnownKind).known; empty = λ e. absurd (f e) };
          fields = record { link = own.link; lo = own.lo; hi = own.hi; value = own.value; up = own.up };
          name = λ _. law a NameForm f;
          range = λ k. absurd (omega (arith, c, k));
          owner = λ _. elim owner [ inl k ↦ inl (kinds o ∙ k) | inr h ↦ inr (c, h) ];
          owned = λ q n g e. c;
          no_component = λ k. absurd (omega (arith, c, k));
          no_parameter = λ _ q n. no_parameter q;
          link = λ n. absurd (n l);
          linked = λ q n e. absurd (omega (arith, c, link_kind q e));
          joins = λ n. absurd (n l);
          joined = λ q n m.
              joined_apart r q n m (apart _ a required component (law q LinkEnd m) c (omega arith)) (unlinked q m).0 (unlinked q m).1 (kinds _ ∙ (law q LinkOwners m).inside);
          ends = ends;
          alone = λ _ q n b. free (q, inside_kind q b.filled, (n, b));
        }

  -- the row goes
  pub emptied : (OwnsAnother t a → ⊥) → (LinkOfAnother t a → ⊥) → Settles t a empty_row
  emptied childless unlinked =
      let far : (q : ℕ) → q ≢ a → Filled t q → owner_at t q ≢ a = λ q n f e. childless (q, inside_kind q f, (n, e)) in
      let not : (q : ℕ) → q ≢ a → link_at t q ≢ a = λ q n e. unlinked (q, inside_link q (λ m. a≢none (sym e ∙ m)), (n, e)) in
      record {
        kind = record { known = lit≤ tt; empty = λ _. refl };
        fields = record { link = λ _. refl; lo = λ _. refl; hi = λ _. refl; value = λ _. refl; up = inl refl };
        name = λ n. absurd (n refl);
        range = λ k. absurd (omega (arith, k));
        owner = λ n. absurd (n refl);
        owned = λ q n f e. absurd (far q n f e);
        no_component = λ k. absurd (omega (arith, k));
        no_parameter = λ k. absurd (omega (arith, k));
        link = λ n. absurd (n refl);
        linked = λ q n e. absurd (not q n e);
        joins = λ n. absurd (n refl);
        joined = λ q n m.
            let p = link_provided q m in
            let w = law q LinkEnd m in
            let c = owner_of q provided p (omega arith) (omega arith) in
            let inside = (law q LinkOwners m).inside in
            let o = far q n (filled q provided p (omega arith)) in
            joined_apart empty_row q n m (not q n) o (far _ (not q n) (filled _ required w (omega arith)))
            (ap (λ x. x.kind) (elsewhere t a within empty_row _ (far _ o (filled _ component c (omega arith)))) ∙ inside);
        ends = (0, refl);
        alone = λ n. absurd (n refl);
      }
