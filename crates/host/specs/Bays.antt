-- A bay: some of the rows of what lies below.
use Rattle.std.specs.Prelude.{◌≡◌, ℕ, ◌+◌, ◌≤◌, List, length, take, drop, refl}
use Rattle.std.proofs.Common.{subst, ◌∙◌, arith, length-take, length-drop}
use Rattle.host.specs.declared.rows.Row.{Row}

abbrev pub part : List Row → ℕ → ℕ → List Row
part t first count = take count (drop first t)

pub part_small : (t : List Row) (first count : ℕ) → length t ≤ 255 → length (part t first count) ≤ 255
part_small t first count h = omega (arith, length-take count (drop first t), length-drop first t)

-- the rows outside a bay are as they were
pub record Outside (first count : ℕ) (t u : List Row) : Type 0 where
  pub long : length u ≡ length t
  pub before : take first u ≡ take first t
  pub after : drop (first + count) u ≡ drop (first + count) t

pub unmoved : (f n : ℕ) (t : List Row) → Outside f n t t
unmoved f n t = record { long = refl; before = refl; after = refl }

pub outward : {f f' n n' : ℕ} {t u v : List Row} → f' ≡ f → n' ≡ n → Outside f n t u → Outside f' n' u v → Outside f n t v
outward {f} {f'} {n} {n'} {t} {u} {v} e d p q' =
    let q = subst (λ i. Outside f i u v) d (subst (λ i. Outside i n' u v) e q') in
    record { long = q.long ∙ p.long; before = q.before ∙ p.before; after = q.after ∙ p.after }
