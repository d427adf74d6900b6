-- The property with a number, where it is listed and where it is not.
use Rattle.std.proofs.Common.{◌≡◌, ℕ, zero, suc, ◌<◌, min, List, ◌∷◌, map, length, get_or, take, Option, option_map, unwrap_or, sym, refl, ap, ◌∙◌, inl, inr, arith}
use Rattle.std.proofs.lemmas.Bool.{cases_lt}
use Rattle.std.proofs.lemmas.List.{get_or_past, length-map, length-take, take_all}
use Rattle.std.proofs.lemmas.Option.{unwrap_or-slice_get, slice_get-map}
use Rattle.scale.specs.Laws.{Ops}
use Rattle.host.specs.declared.rows.Row.{Row}
use Rattle.ftpl.specs.Numbers.{numbered}
use Rattle.ftpl.specs.Properties.{property_value, numbered_value}
use Rattle.ftpl.specs.declared.properties.Property.{Property}

-- what stands at a number, counted from 1, or the value in front
pub read_numbered : {X V : Type 0} (f : X → V) (b : V) (xs : List X) (n : ℕ) → get_or (b ∷ map f xs) n b ≡ unwrap_or (option_map f (numbered xs n)) b
read_numbered f b xs zero = refl
read_numbered f b xs (suc k) = sym (unwrap_or-slice_get (map f xs) k b) ∙ ap (λ o. unwrap_or o b) (slice_get-map f xs k)

module _ {V : Type 0} (s : Ops V) (t : List Row) (ps : List Property) where
  -- the first of the properties, at most 64
  pub numbered_listed : (m n : ℕ) (r : Option Property) → m ≡ min (length ps) 64 → r ≡ numbered (take m ps) n → unwrap_or (option_map (property_value s t) r) s.bottom ≡ numbered_value s t ps n
  numbered_listed m n r h e =
      ap (λ o. unwrap_or (option_map (property_value s t) o) s.bottom) e
      ∙ sym (read_numbered (property_value s t) s.bottom (take m ps) n)
      ∙ ap (λ xs. get_or (s.bottom ∷ map (property_value s t) xs) n s.bottom) same
    where
      same : take m ps ≡ take 64 ps
      same = elim (cases_lt (length ps) 64) [
        | inl l ↦ take_all m ps (omega arith) ∙ sym (take_all 64 ps (omega arith))
        | inr g ↦ (let size : m ≡ 64 = omega arith in ap (λ k. take k ps) size)
      ]

  pub numbered_far : (n : ℕ) → 64 < n → numbered_value s t ps n ≡ s.bottom
  numbered_far zero h = refl
  numbered_far (suc m) h = get_or_past (map (property_value s t) (take 64 ps)) m s.bottom (omega (arith, length-map (take 64 ps) (property_value s t), length-take 64 ps))

  pub numbered_none : (n : ℕ) → length ps < n → numbered_value s t ps n ≡ s.bottom
  numbered_none zero h = refl
  numbered_none (suc m) h = get_or_past (map (property_value s t) (take 64 ps)) m s.bottom (omega (arith, length-map (take 64 ps) (property_value s t), length-take 64 ps))
