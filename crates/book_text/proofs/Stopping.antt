-- Where a reader stops is the first wrong word.
use Rattle.std.proofs.Common.{◌≡◌, ℕ, ◌-◌, ◌≤◌, List, [], ◌∷◌, ◌++◌, length, get_or, take, sym, ap, ◌∙◌, subst, arith}
use Rattle.std.proofs.lemmas.List.{take_all}
use Rattle.book_text.specs.declared.parts.Stop.{Stop}
use Rattle.book_text.specs.declared.parts.Stop.TheVariants.{Wrong, Memory}
use Rattle.book_text.specs.declared.rules.Rule.{Rule}
use Rattle.book_text.specs.Rules.{Text}
use Rattle.book_words.specs.Cuts.{part}
use Rattle.book_text.specs.States.{State, dead, ended, opening, step, run, Running}
use Rattle.book_text.specs.Took.{Failed, RuleTaken}
use Rattle.book_text.specs.Wrong.{IsRule, FirstWrong, Stopped}
use Rattle.book_text.proofs.Complete.{rule_run}
use Rattle.book_text.proofs.Onward.{onward, never}

front : (s : List Text) (e : ℕ) → part s 0 e ≡ take e s
front s e = let n : e - 0 ≡ e = omega arith in ap (λ i. take i s) n

whole : (s : List Text) → part s 0 (length s) ≡ s
whole s = front s (length s) ∙ take_all (length s) s (omega arith)

not_dead : (st : State) → Running st → st ≡ dead → ⊥
not_dead st r e = subst Running e r

ended_not : ended ≡ dead → ⊥
ended_not e = let z : ◌≡◌ {A = ℕ} 0 1 = cc in omega arith

module _ (s : List Text) (e : ℕ) where
  wrong_from : e ≤ length s → (run opening (part s 0 e) ≡ dead → ⊥) → step (run opening (part s 0 e)) (get_or s e []) ≡ dead → (e ≡ length s → IsRule s → ⊥) → FirstWrong s e
  wrong_from h a w l =
      let r = onward (part s 0 e) a in
      record {
        inside = h;
        before = (r.0, subst IsRule (ap (λ z. z ++ r.0) (front s e)) (r.1, r.2, r.3, r.4));
        never = λ u x. let y = subst IsRule (ap (λ z. z ++ (get_or s e [] ∷ u)) (sym (front s e))) x in never (part s 0 e) (get_or s e []) u w y.3;
        lacking = l;
      }

pub stopped : (s : List Text) (r : Stop) → Failed opening s 0 r → Stopped s r
stopped s (Wrong e) x =
    wrong_from s e x.inside (not_dead _ x.alive) x.wrong
    (λ q y. subst Running (ap (λ z. run opening (part s 0 z)) q ∙ ap (run opening) (whole s) ∙ rule_run y.3) x.alive)
stopped s Memory x = tt

-- behind the end of the line nothing may stand
pub behind : (s : List Text) (x : Rule) → RuleTaken s 0 x → (x.next ≡ length s → ⊥) → FirstWrong s x.next
unfolding step
behind s x t n =
    let e = rule_run t.says in
    wrong_from s x.next t.inside (λ q. ended_not (sym e ∙ q)) (ap (λ z. step z (get_or s x.next [])) e) (λ q y. n q)
