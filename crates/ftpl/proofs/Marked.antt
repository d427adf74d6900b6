-- The edges of the definitions.
use Rattle.std.proofs.Common.{◌≡◌, ℕ, Bool, true, false, cond, List, [], ◌∷◌, map, ℤ, pos, neg_ℤ, sym, refl, ap, ◌∙◌, true≢false, arith}
use borrow.Author.Differences.{ints}
use Rattle.std.proofs.lemmas.Int.{clamps}
use Rattle.scale.specs.Laws.{Ops, Laws}
use Rattle.scale.specs.YesNo.{yes_no, yes_no_laws}
use Rattle.scale.specs.Distances.{distance, distance_laws}
use Rattle.host.specs.Tables.{row_at}
use Rattle.ftpl.specs.Joins.{all}
use Rattle.ftpl.specs.Properties.{margin, tests_value}
use Rattle.ftpl.specs.Edges.{TableEdges, PathEdges, Edges}

same_margin : (y z : ℤ) → y ≡ z → margin y z ≡ pos 0
same_margin y z e = omega (arith, ints, clamps)

table_edges : TableEdges
table_edges = record {
  no_parameters = λ t x none. ap (λ (ks : List ℕ). (all distance (map (λ v. tests_value distance t v 255 x) ks)).value) none;
  equal = λ t v w e. ap (λ z. (distance.grade z).value) (same_margin (row_at t v).value (row_at t w).value e);
  equal_turned = λ t v w e. ap (λ z. neg_ℤ (distance.grade z).value) (same_margin (row_at t v).value (row_at t w).value e);
  uncut = λ y z a b c d. omega (arith, ints, clamps);
}

module _ {V : Type 0} (s : Ops V) (p : Laws s) where
  bottom_top : s.both s.bottom s.top ≡ s.bottom
  bottom_top = p.both_comm s.bottom s.top ∙ p.top_both s.bottom

  -- of the numbers 0 and 1 the second is a start, and from there no k follows
  starts_at : (a b : Bool) (f : ℕ → V) → a ≡ false → b ≡ true → f 1 ≡ s.bottom → all s (map f (cond a (0 ∷ cond b (1 ∷ []) []) (cond b (1 ∷ []) []))) ≡ s.bottom
  starts_at true b f h i e = absurd (true≢false h)
  starts_at false false f h i e = absurd (true≢false (sym i))
  starts_at false true f h i e = ap (λ u. s.both u s.top) e ∙ bottom_top

  path_edges : PathEdges s
  path_edges = record {
    own_start = λ ps x y e l t h i. starts_at _ _ _ h i refl;
    alone = λ ps x e l t. refl;
  }

pub edges : Edges
edges = record { tables = table_edges; in_yes_no = path_edges yes_no yes_no_laws; in_distance = path_edges distance distance_laws }
