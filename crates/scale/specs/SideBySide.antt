-- Two scales side by side, value beside value.
use Rattle.std.specs.Prelude.{◌≡◌}
use Rattle.scale.specs.Laws.{Ops, Laws}
use Rattle.scale.specs.declared.beside.Beside.{Beside}

abbrev pub side_by_side : {A B : Type 0} → Ops A → Ops B → Ops (Beside A B)
side_by_side a b = record {
  top = record { first = a.top; second = b.top };
  bottom = record { first = a.bottom; second = b.bottom };
  both = λ x y. record { first = a.both x.first y.first; second = b.both x.second y.second };
  either = λ x y. record { first = a.either x.first y.first; second = b.either x.second y.second };
  turn = λ x. record { first = a.turn x.first; second = b.turn x.second };
  grade = λ d. record { first = a.grade d; second = b.grade d };
}

module _ {A B : Type 0} {a : Ops A} {b : Ops B} (p : Laws a) (q : Laws b) where
  pair : {x y : Beside A B} → x.first ≡ y.first → x.second ≡ y.second → x ≡ y
  pair e f = λ i. record { first = e i; second = f i }

  pub side_by_side_laws : Laws (side_by_side a b)
  side_by_side_laws = record {
    both_comm = λ x y. pair (p.both_comm x.first y.first) (q.both_comm x.second y.second);
    either_comm = λ x y. pair (p.either_comm x.first y.first) (q.either_comm x.second y.second);
    both_assoc = λ x y z. pair (p.both_assoc x.first y.first z.first) (q.both_assoc x.second y.second z.second);
    either_assoc = λ x y z. pair (p.either_assoc x.first y.first z.first) (q.either_assoc x.second y.second z.second);
    both_absorb = λ x y. pair (p.both_absorb x.first y.first) (q.both_absorb x.second y.second);
    either_absorb = λ x y. pair (p.either_absorb x.first y.first) (q.either_absorb x.second y.second);
    both_dist = λ x y z. pair (p.both_dist x.first y.first z.first) (q.both_dist x.second y.second z.second);
    either_dist = λ x y z. pair (p.either_dist x.first y.first z.first) (q.either_dist x.second y.second z.second);
    top_both = λ x. pair (p.top_both x.first) (q.top_both x.second);
    bottom_either = λ x. pair (p.bottom_either x.first) (q.bottom_either x.second);
    turn_turn = λ x. pair (p.turn_turn x.first) (q.turn_turn x.second);
    turn_both = λ x y. pair (p.turn_both x.first y.first) (q.turn_both x.second y.second);
    turn_either = λ x y. pair (p.turn_either x.first y.first) (q.turn_either x.second y.second);
    turn_top = pair p.turn_top q.turn_top;
    turn_bottom = pair p.turn_bottom q.turn_bottom;
  }
