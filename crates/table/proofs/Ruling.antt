-- A table has one verdict.
use Rattle.std.proofs.Common.{◌≡◌, List, Ok, Err, Result, sym, refl, subst, inl, inr}
use Rattle.std.proofs.lemmas.Bool.{cases_order}
use Rattle.host.specs.declared.rows.Row.{Row}
use Rattle.host.specs.declared.refusals.Rule.{Rule}
use Rattle.host.specs.Numbers.{rule_number}
use Rattle.table.specs.declared.breaches.Breach.{Breach}
use Rattle.table.specs.Rules.{LowestBroken, FirstBreach, Checked, Lawful}
use Rattle.table.specs.Verdicts.{same_rule, verdict, verdict_right}

one_rule : (t : List Row) (p : _) (j k : Rule) → LowestBroken t p j → LowestBroken t p k → j ≡ k
one_rule t p j k a b = elim (cases_order (rule_number j) (rule_number k)) [
  | inl e ↦ same_rule j k e
  | inr w ↦ elim w [ inl low ↦ absurd (a.broken (b.lowest j low)) | inr high ↦ absurd (b.broken (a.lowest k high)) ]
]

one_breach : (t : List Row) (a b : Breach) → FirstBreach t a → FirstBreach t b → a ≡ b
one_breach t a b f g = elim (cases_order a.place b.place) [
  | inl e ↦ let r : a.rule ≡ b.rule = one_rule t b.place a.rule b.rule (subst (λ p. LowestBroken t p a.rule) e f.here) g.here in λ i. record { place = e i; rule = r i }
  | inr w ↦ elim w [ inl low ↦ absurd (f.here.broken (g.before a.place low a.rule)) | inr high ↦ absurd (g.here.broken (f.before b.place high b.rule)) ]
]

one_verdict : (t : List Row) (r s : Result Unit Breach) → Checked t r → Checked t s → r ≡ s
one_verdict t (Ok u) (Ok v) f g = refl
one_verdict t (Ok u) (Err b) f g = absurd (g.here.broken (f.keeps b.place b.rule))
one_verdict t (Err a) (Ok v) f g = absurd (f.here.broken (g.keeps a.place a.rule))
one_verdict t (Err a) (Err b) f g = λ i. Err (one_breach t a b f g i)

pub is_verdict : (t : List Row) (r : Result Unit Breach) → Checked t r → r ≡ verdict t
is_verdict t r f = one_verdict t r (verdict t) f (verdict_right t)

-- the verdict says whether a table is lawful
pub lawful_from_verdict : (t : List Row) → verdict t ≡ Ok tt → Lawful t
lawful_from_verdict t e = subst (Checked t) e (verdict_right t)

pub verdict_from_lawful : (t : List Row) → Lawful t → verdict t ≡ Ok tt
verdict_from_lawful t law = sym (is_verdict t (Ok tt) law)
