-- What a check of a table answers, as a function of the table. It is made so that it answers what `Checked` says
-- (`verdict_right`), and there is one such answer.
use Rattle.std.specs.Prelude.{◌≡◌, ℕ, zero, suc, ◌<◌, ◌≤◌, ◌⊎◌, List, length, ℤ, pos, Ok, Err, Result, ◌≢◌, refl}
use Rattle.std.proofs.Common.{sym, ap, subst, ◌∙◌, inl, inr, arith, lit≤}
use Rattle.std.proofs.Math.Decide.{ℕ_discrete, dec_le}
use Rattle.std.proofs.Math.IntN.{ℤ_discrete}
use Rattle.std.proofs.lemmas.List.{get_or_past}
use Rattle.host.specs.declared.rows.Row.{Row}
use Rattle.host.specs.declared.refusals.Rule.{Rule}
use Rattle.host.specs.declared.refusals.Rule.TheVariants.{KnownKind, OwnFields, NameForm, OwnerIsComponent, ParameterOwner, Range, LinkEnd, LinkOwners, OwnersEnd, OwnName}
use Rattle.host.specs.Tables.{row_at, empty_row}
use Rattle.host.specs.Numbers.{rule_number}
use Rattle.table.specs.declared.breaches.Breach.{Breach}
use Rattle.table.specs.Climbing.{reaches?, lt_or_ge}
use Rattle.table.specs.Deciding.{both?, either?, not?, implies?, three?, four?, map?, some?, name?, in_range?, owns?, bears?, joinable?}
use Rattle.table.specs.Places.{component, provided, required, parameter, none, kind_at, name_at, owner_at, link_at}
use Rattle.table.specs.Rules.{KindKnown, FieldsFit, Keeps, KeepsAll, Lawful, LowestBroken, Checked}

-- the least number below n at which P fails
record Least (P : ℕ → Type 0) (n : ℕ) : Type 0 where
  at : ℕ
  within : at < n
  fails : P at → ⊥
  before : (k : ℕ) → k < at → P k

least? : (P : ℕ → Type 0) → ((k : ℕ) → Dec (P k)) → (n : ℕ) → Least P n ⊎ ((k : ℕ) → k < n → P k)
least? P d zero = inr (λ k h. absurd (omega arith))
least? P d (suc n) = go (least? P d n) (d n)
  where
    go : Least P n ⊎ ((k : ℕ) → k < n → P k) → Dec (P n) → Least P (suc n) ⊎ ((k : ℕ) → k < suc n → P k)
    go (inl l) e = inl (record { at = l.at; within = omega (arith, l.within); fails = l.fails; before = l.before })
    go (inr all) (yes p) = inr (λ k h. elim (ℕ_discrete k n) [ yes e ↦ subst P (sym e) p | no m ↦ all k (omega (arith, h, m)) ])
    go (inr all) (no q) = inl (record { at = n; within = omega arith; fails = q; before = all })

empty? : (r : Row) → Dec (r ≡ empty_row)
empty? r =
    map? (λ h i. record { kind = h.0.0 i; name = h.0.1 i; owner = h.0.2 i; link = h.0.3 i; up = h.1.0 i; lo = h.1.1 i; hi = h.1.2 i; value = h.1.3 i })
    (λ e. ((ap (λ x. x.kind) e, ap (λ x. x.name) e, ap (λ x. x.owner) e, ap (λ x. x.link) e), (ap (λ x. x.up) e, ap (λ x. x.lo) e, ap (λ x. x.hi) e, ap (λ x. x.value) e)))
    (both? (four? (ℕ_discrete r.kind 0) (ℕ_discrete r.name 0) (ℕ_discrete r.owner 255) (ℕ_discrete r.link 255)) (four? (ℕ_discrete r.up 0) (ℤ_discrete r.lo (pos 0)) (ℤ_discrete r.hi (pos 0)) (ℤ_discrete r.value (pos 0))))

kind_known? : (r : Row) → Dec (KindKnown r)
kind_known? r = map? (λ h. record { known = h.0; empty = h.1 }) (λ h. (h.known, h.empty)) (both? (dec_le r.kind 4) (implies? (ℕ_discrete r.kind 0) (empty? r)))

fields_fit? : (r : Row) → Dec (FieldsFit r)
fields_fit? r =
    map? (λ h. record { link = h.0; lo = h.1.0; hi = h.1.1; value = h.1.2; up = h.2 }) (λ h. (h.link, (h.lo, h.hi, h.value), h.up))
    (three? (implies? (not? (ℕ_discrete r.kind provided)) (ℕ_discrete r.link none))
    (three? (zero? r.lo) (zero? r.hi) (zero? r.value))
    (either? (ℕ_discrete r.up 0) (both? (ℕ_discrete r.kind component) (ℕ_discrete r.up 1))))
  where
    zero? : (z : ℤ) → Dec ((r.kind ≢ parameter) → z ≡ pos 0)
    zero? z = implies? (not? (ℕ_discrete r.kind parameter)) (ℤ_discrete z (pos 0))

keeps? : (t : List Row) (p : ℕ) (k : Rule) → Dec (Keeps k t p)
keeps? t p KnownKind = kind_known? (row_at t p)
keeps? t p OwnFields = fields_fit? (row_at t p)
keeps? t p NameForm = implies? (not? (ℕ_discrete (kind_at t p) 0)) (name? (name_at t p))
keeps? t p OwnerIsComponent = implies? (not? (ℕ_discrete (kind_at t p) 0)) (either? (ℕ_discrete (kind_at t (owner_at t p)) component) (both? (ℕ_discrete (kind_at t p) component) (ℕ_discrete (owner_at t p) none)))
keeps? t p ParameterOwner = implies? (ℕ_discrete (kind_at t p) parameter) (not? (owns? t (owner_at t p) component))
keeps? t p Range = implies? (ℕ_discrete (kind_at t p) parameter) (in_range? (row_at t p).lo (row_at t p).hi (row_at t p).value)
keeps? t p LinkEnd = implies? (not? (ℕ_discrete (link_at t p) none)) (ℕ_discrete (kind_at t (link_at t p)) required)
keeps? t p LinkOwners = implies? (not? (ℕ_discrete (link_at t p) none)) (joinable? t p (link_at t p))
keeps? t p OwnersEnd = reaches? t p none
keeps? t p OwnName =
    implies? (not? (ℕ_discrete (kind_at t p) 0))
    (map? (λ h q low b. h (q, low, b)) (λ h x. h x.0 x.1 x.2) (not? (some? _ (λ q. bears? t q (owner_at t p) (name_at t p)) p)))

-- the empty row keeps every rule
pub empty_keeps : (t : List Row) (p : ℕ) → row_at t p ≡ empty_row → (k : Rule) → Keeps k t p
empty_keeps t p e KnownKind = subst KindKnown (sym e) (record { known = lit≤ tt; empty = λ _. refl })
empty_keeps t p e OwnFields = subst FieldsFit (sym e) (record { link = λ _. refl; lo = λ _. refl; hi = λ _. refl; value = λ _. refl; up = inl refl })
empty_keeps t p e NameForm = λ f. absurd (f (ap (λ r. r.kind) e))
empty_keeps t p e OwnerIsComponent = λ f. absurd (f (ap (λ r. r.kind) e))
empty_keeps t p e ParameterOwner = λ f. absurd (omega (arith, f, ap (λ r. r.kind) e))
empty_keeps t p e Range = λ f. absurd (omega (arith, f, ap (λ r. r.kind) e))
empty_keeps t p e LinkEnd = λ f. absurd (f (ap (λ r. r.link) e))
empty_keeps t p e LinkOwners = λ f. absurd (f (ap (λ r. r.link) e))
empty_keeps t p e OwnersEnd = (1, ap (λ r. r.owner) e)
empty_keeps t p e OwnName = λ f. absurd (f (ap (λ r. r.kind) e))

-- so a table that keeps the rules at each of its places is lawful
pub lawful_within : (t : List Row) → ((p : ℕ) → p < length t → KeepsAll t p) → Lawful t
lawful_within t h = record { keeps = λ p. elim (lt_or_ge p (length t)) [ inl low ↦ h p low | inr high ↦ empty_keeps t p (get_or_past t p empty_row high) ] }

-- the rules by their numbers less 1
rule_at : ℕ → Rule
rule_at zero = KnownKind
rule_at (suc zero) = OwnFields
rule_at (suc (suc zero)) = NameForm
rule_at (suc (suc (suc zero))) = OwnerIsComponent
rule_at (suc (suc (suc (suc zero)))) = ParameterOwner
rule_at (suc (suc (suc (suc (suc zero))))) = Range
rule_at (suc (suc (suc (suc (suc (suc zero)))))) = LinkEnd
rule_at (suc (suc (suc (suc (suc (suc (suc zero))))))) = LinkOwners
rule_at (suc (suc (suc (suc (suc (suc (suc (suc zero)))))))) = OwnersEnd
rule_at (suc (suc (suc (suc (suc (suc (suc (suc (suc n))))))))) = OwnName

-- a rule's place among the ten
record Numbered (k : Rule) : Type 0 where
  index : ℕ
  within : index < 10
  is : rule_number k ≡ suc index
  back : rule_at index ≡ k

numbered : (k : Rule) → Numbered k
unfolding rule_at
numbered KnownKind = record { index = 0; within = omega arith; is = refl; back = refl }
numbered OwnFields = record { index = 1; within = omega arith; is = refl; back = refl }
numbered NameForm = record { index = 2; within = omega arith; is = refl; back = refl }
numbered OwnerIsComponent = record { index = 3; within = omega arith; is = refl; back = refl }
numbered ParameterOwner = record { index = 4; within = omega arith; is = refl; back = refl }
numbered Range = record { index = 5; within = omega arith; is = refl; back = refl }
numbered LinkEnd = record { index = 6; within = omega arith; is = refl; back = refl }
numbered LinkOwners = record { index = 7; within = omega arith; is = refl; back = refl }
numbered OwnersEnd = record { index = 8; within = omega arith; is = refl; back = refl }
numbered OwnName = record { index = 9; within = omega arith; is = refl; back = refl }

pub same_rule : (j k : Rule) → rule_number j ≡ rule_number k → j ≡ k
same_rule j k e =
    let m = numbered j in
    let n = numbered k in
    let same : m.index ≡ n.index = omega (arith, e, m.is, n.is) in
    sym m.back ∙ ap rule_at same ∙ n.back

-- a rule that is broken at an index has no lower number than that
number_at : (i : ℕ) → i < 10 → rule_number (rule_at i) ≤ suc i
unfolding rule_at
number_at zero h = omega arith
number_at (suc zero) h = omega arith
number_at (suc (suc zero)) h = omega arith
number_at (suc (suc (suc zero))) h = omega arith
number_at (suc (suc (suc (suc zero)))) h = omega arith
number_at (suc (suc (suc (suc (suc zero))))) h = omega arith
number_at (suc (suc (suc (suc (suc (suc zero)))))) h = omega arith
number_at (suc (suc (suc (suc (suc (suc (suc zero))))))) h = omega arith
number_at (suc (suc (suc (suc (suc (suc (suc (suc zero)))))))) h = omega arith
number_at (suc (suc (suc (suc (suc (suc (suc (suc (suc n))))))))) h = omega arith

module _ (t : List Row) where
  lowest? : (p : ℕ) → ((k : Rule) × LowestBroken t p k) ⊎ KeepsAll t p
  lowest? p = go (least? (λ i. Keeps (rule_at i) t p) (λ i. keeps? t p (rule_at i)) 10)
    where
      go : Least (λ i. Keeps (rule_at i) t p) 10 ⊎ ((i : ℕ) → i < 10 → Keeps (rule_at i) t p) → ((k : Rule) × LowestBroken t p k) ⊎ KeepsAll t p
      go (inl l) =
          inl (
            rule_at l.at,
            record {
              broken = l.fails;
              lowest = λ j h. let n = numbered j in subst (λ k. Keeps k t p) n.back (l.before n.index (omega (arith, h, n.is, number_at l.at l.within)));
            },
          )
      go (inr all) = inr (λ j. let n = numbered j in subst (λ k. Keeps k t p) n.back (all n.index n.within))

  keeps_all? : (p : ℕ) → Dec (KeepsAll t p)
  keeps_all? p = elim (lowest? p) [ inl b ↦ no (λ all. b.1.broken (all b.0)) | inr all ↦ yes all ]

  judged : (r : Result Unit Breach) × Checked t r
  judged = go (least? (KeepsAll t) keeps_all? (length t))
    where
      at : (l : Least (KeepsAll t) (length t)) → ((k : Rule) × LowestBroken t l.at k) ⊎ KeepsAll t l.at → (r : Result Unit Breach) × Checked t r
      at l (inl b) = (Err (record { place = l.at; rule = b.0 }), record { here = b.1; before = l.before })
      at l (inr all) = absurd (l.fails all)

      go : Least (KeepsAll t) (length t) ⊎ ((p : ℕ) → p < length t → KeepsAll t p) → (r : Result Unit Breach) × Checked t r
      go (inl l) = at l (lowest? l.at)
      go (inr all) = (Ok tt, lawful_within t all)

  -- what a check of the table answers
  pub verdict : Result Unit Breach
  verdict = judged.0

  pub verdict_right : Checked t verdict
  unfolding verdict
  verdict_right = judged.1
