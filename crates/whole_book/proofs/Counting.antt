-- The three groups of lines of a book go on one after the other.
use Rattle.std.proofs.Common.{◌≡◌, ℕ, ◌+◌, ◌≤◌, List, [], ◌∷◌, ◌++◌, length, codes, decimal, sym, refl, subst, arith}
use Rattle.std.specs.List.{AllByRecursion}
use Rattle.book_words.specs.declared.bytes.Class.{Class}
use Rattle.book_words.specs.Layout.{Proper}
use Rattle.book_text.specs.Rules.{Text}
use Rattle.book_text.specs.Wrong.{IsRule as IsProperty}
use Rattle.formula_text.specs.Wrong.{IsRule as IsFormula}
use Rattle.formula_text.proofs.Afters.{some_core}
use Rattle.whole_book.specs.declared.entries.Listed.{Listed}
use Rattle.whole_book.specs.declared.entries.Head.TheVariants.{Property, Condition, Formula}
use Rattle.whole_book.specs.Books.{numbered, held, Rising, LinesSay, IsBook}
use Rattle.whole_book.specs.Lines.{last_from, counted, Line}
use Rattle.whole_book.proofs.Going.{Goes, none, line, goes_on, lines_proper}

abbrev pub listing : ℕ → ℕ → ℕ → ℕ → Listed
listing k c l f = record { properties = k; conditions = c; last = l; formulas = f }

properties_go : (k : ℕ) (qs : List (List Text)) → AllByRecursion IsProperty qs → k + length qs ≤ 64 → Goes (listing k 0 0 0) (numbered (codes "prop=") (k + 1) qs) (listing (k + length qs) 0 0 0)
properties_go k [] h s = subst (λ z. Goes (listing k 0 0 0) [] (listing z 0 0 0)) (omega arith) none
properties_go k (q ∷ qs) h s =
    let e : k + 1 + length qs ≡ k + length (q ∷ qs) = omega arith in
    let a : Line (listing k 0 0 0) ((codes "prop=" ++ decimal (k + 1)) ∷ q) (listing (k + 1) 0 0 0) = record { head = Property; word = codes "prop=" ++ decimal (k + 1); body = q; announced = (refl, refl, omega arith, refl); rest = h.0; words = refl; then = refl } in
    subst (λ z. Goes (listing k 0 0 0) (numbered (codes "prop=") (k + 1) (q ∷ qs)) (listing z 0 0 0)) e (line a (properties_go (k + 1) qs h.1 (omega arith)))

conditions_go : (k c l : ℕ) (ns : List ℕ) → Rising l ns → AllByRecursion (λ n. n ≤ k) ns → c + length ns ≤ 16 → Goes (listing k c l 0) (held ns) (listing k (c + length ns) (last_from l ns) 0)
conditions_go k c l [] r h s = subst (λ z. Goes (listing k c l 0) [] (listing k z l 0)) (omega arith) none
conditions_go k c l (n ∷ ns) r h s =
    let e : c + 1 + length ns ≡ c + length (n ∷ ns) = omega arith in
    let a : Line (listing k c l 0) ((codes "hold=" ++ decimal n) ∷ codes "\n" ∷ []) (listing k (c + 1) n 0) = record { head = Condition n; word = codes "hold=" ++ decimal n; body = codes "\n" ∷ []; announced = (refl, omega arith, r.0, h.0, refl); rest = refl; words = refl; then = refl } in
    subst (λ z. Goes (listing k c l 0) (held (n ∷ ns)) (listing k z (last_from n ns) 0)) e (line a (conditions_go k (c + 1) n ns r.1 h.1 (omega arith)))

formulas_go : (k c l f : ℕ) (qs : List (List Text)) → AllByRecursion (IsFormula k) qs → f + length qs ≤ 32 → Goes (listing k c l f) (numbered (codes "form=") (f + 1) qs) (listing k c l (f + length qs))
formulas_go k c l f [] h s = subst (λ z. Goes (listing k c l f) [] (listing k c l z)) (omega arith) none
formulas_go k c l f (q ∷ qs) h s =
    let e : f + 1 + length qs ≡ f + length (q ∷ qs) = omega arith in
    let i = h.0 in
    let a : Line (listing k c l f) ((codes "form=" ++ decimal (f + 1)) ∷ q) (listing k c l (f + 1)) = record { head = Formula; word = codes "form=" ++ decimal (f + 1); body = q; announced = (some_core k i.1 i.2.says.core i.2.says.says, omega arith, refl); rest = i; words = refl; then = refl } in
    subst (λ z. Goes (listing k c l f) (numbered (codes "form=") (f + 1) (q ∷ qs)) (listing k c l z)) e (line a (formulas_go k c l (f + 1) qs h.1 (omega arith)))

-- nothing is listed yet
abbrev pub nothing : Listed
nothing = listing 0 0 0 0

pub book_goes : (props : List (List Text)) (holds : List ℕ) (forms : List (List Text)) (p : List Text) → AllByRecursion IsProperty props → AllByRecursion (IsFormula (length props)) forms → LinesSay props holds forms p → Goes nothing p (counted (length props) holds (length forms))
book_goes props holds forms p h k s =
    let a = properties_go 0 props h (omega (arith, s.few_properties)) in
    let b = conditions_go (length props) 0 0 holds s.rising s.listed (omega (arith, s.few_conditions)) in
    let c = formulas_go (length props) (length holds) (last_from 0 holds) 0 forms k (omega (arith, s.few_formulas)) in
    let a' : Goes nothing (numbered (codes "prop=") 1 props) (listing (length props) 0 0 0) = subst (λ z. Goes nothing (numbered (codes "prop=") 1 props) (listing z 0 0 0)) (omega arith) a in
    let b' : Goes (listing (length props) 0 0 0) (held holds) (listing (length props) (length holds) (last_from 0 holds) 0) = subst (λ z. Goes (listing (length props) 0 0 0) (held holds) (listing (length props) z (last_from 0 holds) 0)) (omega arith) b in
    let c' : Goes (listing (length props) (length holds) (last_from 0 holds) 0) (numbered (codes "form=") 1 forms) (counted (length props) holds (length forms)) = subst (λ z. Goes (listing (length props) (length holds) (last_from 0 holds) 0) (numbered (codes "form=") 1 forms) (listing (length props) (length holds) (last_from 0 holds) z)) (omega arith) c in
    subst (λ z. Goes nothing z (counted (length props) holds (length forms))) (sym s.words) (goes_on a' (goes_on b' c'))

pub is_book_goes : (p : List Text) → IsBook p → (τ : Listed) × Goes nothing p τ
is_book_goes p b = (counted (length b.props) b.holds (length b.forms), book_goes b.props b.holds b.forms p b.properties b.formulas b.lines)

-- the words of a book can be laid out
pub book_proper : (p : List Text) → IsBook p → AllByRecursion (λ t. (c : Class) × Proper c t) p
book_proper p b = lines_proper (omega arith) (is_book_goes p b).1
