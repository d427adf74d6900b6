-- What chains over the places below an end answer.
use Rattle.std.proofs.Common.{◌≡◌, ℕ, ◌<◌, Bool, true, false, cond, List, ◌+◌, length, get_or, Option, Decides, sym, refl, ap, subst, arith, ◌∙◌}
use Rattle.std.specs.Bool.{MatchBool}
use Rattle.std.specs.Fn.{Called}
use Rattle.std.specs.Iterator.{YieldsThen}
use Rattle.std.specs.List.{range_with_len, count_by, filter, FoldsTo, HoldsAt, AllWithin}
use Rattle.std.specs.Option.{MatchOption}
use Rattle.std.specs.declared.ops.Range.{Range}
use Rattle.std.proofs.iter.Yields.{nat_range_steps}
use Rattle.std.proofs.lemmas.Bool.{false≢true}
use Rattle.std.proofs.lemmas.Iterator.{cases_from_any, YieldsList-from_range}
use Rattle.std.proofs.lemmas.List.FromFn.{length-range_with_len, get_or-range_with_len, fill_by_all}
use Rattle.std.proofs.lemmas.List.Folds.{fold-map}
use Rattle.std.proofs.lemmas.List.Sums.{length-filter}
use denote.Param.Members.{Mut}

decides_from_cases : (r : Bool) (end : ℕ) (P : ℕ → Type 0) → MatchBool r ((k : ℕ) × (k < length (range_with_len 0 end)) × HoldsAt P (range_with_len 0 end) k) (AllWithin (λ k. P k → ⊥) (range_with_len 0 end) 0 (length (range_with_len 0 end))) → Decides r ((q : ℕ) × (q < end) × P q)
decides_from_cases true end P h =
    let low : h.0 < end = omega (arith, h.1, length-range_with_len 0 end) in
    (λ _. (h.0, low, subst P (get_or-range_with_len 0 end h.0 0 low ∙ omega arith) (h.2 0)), λ _. refl)
decides_from_cases false end P h =
    (λ e. absurd (false≢true e), λ q. absurd (h q.0 0 (omega arith) (omega (arith, q.1, length-range_with_len 0 end)) (subst P (sym (get_or-range_with_len 0 end q.0 0 q.1 ∙ omega arith)) q.2)))

-- where each call tells whether P holds of its place, `any` tells whether it holds of some
pub any_decides : {F : Type 0} {g : Mut F (ℕ × Unit {0}) Bool} (s u : Range ℕ) (f : F) (r : Bool) (end : ℕ) (P : ℕ → Type 0) → (xs : List ℕ) × (o : Option ℕ) × (j : F) × YieldsThen nat_range_steps s xs o u × FoldsTo (λ p x q. Called g p (x, tt) false q) f xs j × MatchOption o (r ≡ false) (λ x. (r ≡ true) × ((h : F) × Called g j (x, tt) true h)) → s.start ≡ 0 → s.end ≡ end → ((q : ℕ) (b : Bool) (f' : F) → Called g f (q, tt) b f' → (f' ≡ f) × Decides b (P q)) → Decides r ((q : ℕ) × (q < end) × P q)
any_decides s u f r end P ran d e tells =
    decides_from_cases r end P
    (cases_from_any u f r P (λ q. P q → ⊥) ran (YieldsList-from_range 0 end end (λ i. record { start = d i; end = e i }) (omega arith)) (λ q f' k. (tells q true f' k).1.0 refl) (λ q f' k. ((tells q false f' k).0, λ p. false≢true ((tells q false f' k).1.1 p))))

-- as many places pass a test of their elements as elements do
pub length-filter-places : {X : Type 0} (p : X → Bool) (d : X) (xs : List X) (n : ℕ) → n ≡ length xs → length (filter (λ k. p (get_or xs k d)) (range_with_len 0 n)) ≡ count_by p xs
length-filter-places p d xs n e =
    length-filter (λ k. p (get_or xs k d)) (range_with_len 0 n) ∙ sym (fold-map (λ c x. c + cond (p x) 1 0) (λ k. get_or xs k d) 0 (range_with_len 0 n))
    ∙ ap (count_by p) (sym (fill_by_all (λ k. get_or xs k d) xs n d (sym e) (λ k h. refl)))
