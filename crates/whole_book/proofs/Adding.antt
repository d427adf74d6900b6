-- One line more: the words of a book with a line behind them are a book again.
use Rattle.std.proofs.Common.{◌≡◌, ℕ, ◌+◌, ◌<◌, ◌≤◌, List, [], ◌∷◌, ◌++◌, length, vec_items, codes, decimal, sym, refl, ap, ◌∙◌, subst, append_assoc, append-nil, arith, length-append}
use Rattle.std.specs.List.{AllByRecursion}
use Rattle.std.proofs.ByRecursion.{All-push}
use Rattle.ftpl.specs.declared.books.Book.{Book}
use Rattle.book_text.specs.Rules.{Text, PropertySays, form}
use Rattle.book_text.specs.Wrong.{IsRule as IsProperty}
use Rattle.formula_text.specs.Rules.{FormulaSays}
use Rattle.formula_text.specs.Wrong.{IsRule as IsFormula}
use Rattle.whole_book.specs.declared.entries.Head.{Head}
use Rattle.whole_book.specs.declared.entries.Head.TheVariants.{Property, Condition, Formula}
use Rattle.whole_book.specs.declared.entries.Entry.{Entry}
use Rattle.whole_book.specs.declared.entries.Entry.TheVariants as says
use Rattle.whole_book.specs.Books.{numbered, held, Rising, LinesSay, Each, BookSays, IsBook}
use Rattle.whole_book.specs.Lines.{last_from, counted, listed_in, HeadSays, Body, BodySays}
use Rattle.whole_book.specs.Took.{Entered}
use Rattle.whole_book.proofs.Lists.{no_length, each_push, each_length, each_all}

numbered_push : (key : Text) (n : ℕ) (qs : List (List Text)) (q : List Text) → numbered key n (qs ++ (q ∷ [])) ≡ numbered key n qs ++ ((key ++ decimal (n + length qs)) ∷ q)
numbered_push key n [] q = let e : n ≡ n + 0 = omega arith in λ i. (key ++ decimal (e i)) ∷ append-nil q i
numbered_push key n (r ∷ qs) q =
    let e : n + 1 + length qs ≡ n + length (r ∷ qs) = omega arith in
    ap (λ z. (key ++ decimal n) ∷ (r ++ z)) (numbered_push key (n + 1) qs q ∙ ap (λ z. numbered key (n + 1) qs ++ ((key ++ decimal z) ∷ q)) e)
    ∙ ap (λ z. (key ++ decimal n) ∷ z) (sym (append_assoc r (numbered key (n + 1) qs) ((key ++ decimal (n + length (r ∷ qs))) ∷ q)))

held_push : (ns : List ℕ) (n : ℕ) → held (ns ++ (n ∷ [])) ≡ held ns ++ ((codes "hold=" ++ decimal n) ∷ codes "\n" ∷ [])
held_push [] n = refl
held_push (m ∷ ns) n = ap (λ z. (codes "hold=" ++ decimal m) ∷ codes "\n" ∷ z) (held_push ns n)

rising_push : (l : ℕ) (ns : List ℕ) (n : ℕ) → Rising l ns → last_from l ns < n → Rising l (ns ++ (n ∷ []))
rising_push l [] n r h = (h, tt)
rising_push l (m ∷ ns) n r h = (r.0, rising_push m ns n r.1 h)

-- the rules and conditions with those of one line more
abbrev more_props : Head → List (List Text) → List Text → List (List Text)
more_props Property props q = props ++ (q ∷ [])
more_props (Condition n) props q = props
more_props Formula props q = props

abbrev more_holds : Head → List ℕ → List ℕ
more_holds Property holds = holds
more_holds (Condition n) holds = holds ++ (n ∷ [])
more_holds Formula holds = holds

abbrev more_forms : Head → List (List Text) → List Text → List (List Text)
more_forms Property forms q = forms
more_forms (Condition n) forms q = forms
more_forms Formula forms q = forms ++ (q ∷ [])

-- a condition's line has no more than its end
abbrev Closed : Head → List Text → Type 0
Closed Property q = Unit {0}
Closed (Condition n) q = q ≡ codes "\n" ∷ []
Closed Formula q = Unit {0}

pushed : {A : Type 0} (xs : List A) (x : A) → length (xs ++ (x ∷ [])) ≡ length xs + 1
pushed xs x = length-append xs (x ∷ [])

lines_more : (h : Head) (props : List (List Text)) (holds : List ℕ) (forms : List (List Text)) (p q : List Text) (t : Text) → LinesSay props holds forms p → HeadSays (counted (length props) holds (length forms)) h t → Closed h q → LinesSay (more_props h props q) (more_holds h holds) (more_forms h forms q) (p ++ (t ∷ q))
lines_more Property props [] [] p q t s a c =
    let n = pushed props q in
    let N = numbered (codes "prop=") 1 props in
    let e : length props + 1 ≡ 1 + length props = omega arith in
    record {
      few_properties = omega (arith, n, a.2);
      few_conditions = omega arith;
      few_formulas = omega arith;
      rising = tt;
      listed = tt;
      words =
          (λ i. (s.words ∙ append-nil N) i ++ ((a.3 ∙ ap (λ z. codes "prop=" ++ decimal z) e) i ∷ q))
          ∙ sym (numbered_push (codes "prop=") 1 props q) ∙ sym (append-nil (numbered (codes "prop=") 1 (props ++ (q ∷ []))));
    }
lines_more Property props [] (f ∷ forms) p q t s a c = absurd (omega (arith, a.1))
lines_more Property props (n ∷ holds) forms p q t s a c = absurd (omega (arith, a.0))
lines_more (Condition n) props holds [] p q t s a c =
    let m = pushed holds n in
    let N = numbered (codes "prop=") 1 props in
    let X = (codes "hold=" ++ decimal n) ∷ codes "\n" ∷ [] in
    record {
      few_properties = s.few_properties;
      few_conditions = omega (arith, m, a.1);
      few_formulas = omega arith;
      rising = rising_push 0 holds n s.rising a.2;
      listed = All-push (λ n. n ≤ length props) holds n s.listed a.3;
      words =
          (λ i. (s.words ∙ ap (λ z. N ++ z) (append-nil (held holds))) i ++ (a.4 i ∷ c i))
          ∙ append_assoc N (held holds) X ∙ ap (λ z. N ++ z) (sym (held_push holds n) ∙ sym (append-nil (held (holds ++ (n ∷ [])))));
    }
lines_more (Condition n) props holds (f ∷ forms) p q t s a c = absurd (omega (arith, a.0))
lines_more Formula props holds forms p q t s a c =
    let n = pushed forms q in
    let N = numbered (codes "prop=") 1 props in
    let F = numbered (codes "form=") 1 forms in
    let e : length forms + 1 ≡ 1 + length forms = omega arith in
    let X = (codes "form=" ++ decimal (1 + length forms)) ∷ q in
    record {
      few_properties = s.few_properties;
      few_conditions = s.few_conditions;
      few_formulas = omega (arith, n, a.1);
      rising = s.rising;
      listed = s.listed;
      words =
          (λ i. s.words i ++ ((a.2 ∙ ap (λ z. codes "form=" ++ decimal z) e) i ∷ q))
          ∙ append_assoc N (held holds ++ F) X ∙ ap (λ z. N ++ z) (append_assoc (held holds) F X ∙ ap (λ z. held holds ++ z) (sym (numbered_push (codes "form=") 1 forms q)));
    }

module _ (b : Book) (p : List Text) (s : BookSays b p) where
  many : length (vec_items b.properties) ≡ length s.props
  many = each_length PropertySays (vec_items b.properties) s.props s.properties

  formulas_many : length (vec_items b.formulas) ≡ length s.forms
  formulas_many = each_length (FormulaSays (length s.props)) (vec_items b.formulas) s.forms s.formulas

  -- the limits of a book
  pub few_listed : (length (vec_items b.properties) ≤ 64) × (length (vec_items b.conditions) ≤ 16) × (length (vec_items b.formulas) ≤ 32)
  few_listed = (omega (arith, many, s.lines.few_properties), s.lines.few_conditions, omega (arith, formulas_many, s.lines.few_formulas))

  -- what the book lists is what its lines list
  pub as_listed : listed_in b ≡ counted (length s.props) (vec_items b.conditions) (length s.forms)
  as_listed = λ i. counted (many i) (vec_items b.conditions) (formulas_many i)

  pub all_properties : AllByRecursion IsProperty s.props
  all_properties = each_all PropertySays IsProperty (λ x q h. (x.outer, x.inner, form x.tests, h)) (vec_items b.properties) s.props s.properties

  pub all_formulas : AllByRecursion (IsFormula (length s.props)) s.forms
  all_formulas = each_all (FormulaSays (length s.props)) (IsFormula (length s.props)) (λ x q h. (h.0, h.1, h.2)) (vec_items b.formulas) s.forms s.formulas

  pub some_book : IsBook p
  some_book = record { props = s.props; holds = vec_items b.conditions; forms = s.forms; properties = all_properties; formulas = all_formulas; lines = s.lines }

  module _ (t : Text) (q : List Text) where
    -- a line more makes some book
    pub is_book_more : (h : Head) → HeadSays (listed_in b) h t → Body (length (vec_items b.properties)) h q → IsBook (p ++ (t ∷ q))
    is_book_more h a r = by h (subst (λ z. HeadSays z h t) as_listed a) (subst (λ z. Body z h q) many r)
      where
        by : (h : Head) → HeadSays (counted (length s.props) (vec_items b.conditions) (length s.forms)) h t → Body (length s.props) h q → IsBook (p ++ (t ∷ q))
        by Property a r =
            let none = no_length s.forms a.1 in
            record { props = s.props ++ (q ∷ []); holds = vec_items b.conditions; forms = s.forms; properties = All-push IsProperty s.props q all_properties r; formulas = subst (AllByRecursion (IsFormula (length (s.props ++ (q ∷ []))))) (sym none) tt; lines = lines_more Property s.props (vec_items b.conditions) s.forms p q t s.lines a tt }
        by (Condition n) a r =
            record { props = s.props; holds = vec_items b.conditions ++ (n ∷ []); forms = s.forms; properties = all_properties; formulas = all_formulas; lines = lines_more (Condition n) s.props (vec_items b.conditions) s.forms p q t s.lines a r }
        by Formula a r =
            record { props = s.props; holds = vec_items b.conditions; forms = s.forms ++ (q ∷ []); properties = all_properties; formulas = All-push (IsFormula (length s.props)) s.forms q all_formulas r; lines = lines_more Formula s.props (vec_items b.conditions) s.forms p q t s.lines a tt }

    -- and just the book with what the line says
    pub book_more : (c : Book) (h : Head) (x : Entry) → HeadSays (listed_in b) h t → BodySays (length (vec_items b.properties)) h x q → Entered b x c → BookSays c (p ++ (t ∷ q))
    book_more c h x a r n = by h x (subst (λ z. HeadSays z h t) as_listed a) (subst (λ z. BodySays z h x q) many r) n
      where
        by : (h : Head) (x : Entry) → HeadSays (counted (length s.props) (vec_items b.conditions) (length s.forms)) h t → BodySays (length s.props) h x q → Entered b x c → BookSays c (p ++ (t ∷ q))
        by Property (says.Property x) a r n =
            let none = no_length s.forms a.1 in
            let none' = no_length (vec_items b.formulas) (formulas_many ∙ a.1) in
            record {
              props = s.props ++ (q ∷ []);
              forms = s.forms;
              properties = subst (λ z. Each PropertySays z (s.props ++ (q ∷ []))) (sym n.0) (each_push PropertySays (vec_items b.properties) s.props x q s.properties r);
              formulas = subst (λ z. Each (FormulaSays (length (s.props ++ (q ∷ [])))) z s.forms) (sym (n.2 ∙ none')) (subst (λ z. Each (FormulaSays (length (s.props ++ (q ∷ [])))) [] z) (sym none) tt);
              lines = subst (λ z. LinesSay (s.props ++ (q ∷ [])) z s.forms (p ++ (t ∷ q))) (sym n.1) (lines_more Property s.props (vec_items b.conditions) s.forms p q t s.lines a tt);
            }
        by (Condition m) (says.Condition k) a r n =
            record {
              props = s.props;
              forms = s.forms;
              properties = subst (λ z. Each PropertySays z s.props) (sym n.0) s.properties;
              formulas = subst (λ z. Each (FormulaSays (length s.props)) z s.forms) (sym n.2) s.formulas;
              lines = subst (λ z. LinesSay s.props z s.forms (p ++ (t ∷ q))) (sym (n.1 ∙ ap (λ z. vec_items b.conditions ++ (z ∷ [])) r.0)) (lines_more (Condition m) s.props (vec_items b.conditions) s.forms p q t s.lines a r.1);
            }
        by Formula (says.Formula x) a r n =
            record {
              props = s.props;
              forms = s.forms ++ (q ∷ []);
              properties = subst (λ z. Each PropertySays z s.props) (sym n.0) s.properties;
              formulas = subst (λ z. Each (FormulaSays (length s.props)) z (s.forms ++ (q ∷ []))) (sym n.2) (each_push (FormulaSays (length s.props)) (vec_items b.formulas) s.forms x q s.formulas r);
              lines = subst (λ z. LinesSay s.props z (s.forms ++ (q ∷ [])) (p ++ (t ∷ q))) (sym n.1) (lines_more Formula s.props (vec_items b.conditions) s.forms p q t s.lines a tt);
            }
        by Property (says.Condition k) a r n = absurd r
        by Property (says.Formula x) a r n = absurd r
        by (Condition m) (says.Property x) a r n = absurd r
        by (Condition m) (says.Formula x) a r n = absurd r
        by Formula (says.Property x) a r n = absurd r
        by Formula (says.Condition k) a r n = absurd r

-- a book with nothing in it
pub empty_book : (b : Book) → vec_items b.properties ≡ [] → vec_items b.conditions ≡ [] → vec_items b.formulas ≡ [] → BookSays b []
empty_book b p c f =
    record {
      props = [];
      forms = [];
      properties = subst (λ z. Each PropertySays z []) (sym p) tt;
      formulas = subst (λ z. Each (FormulaSays 0) z []) (sym f) tt;
      lines = subst (λ z. LinesSay [] z [] []) (sym c) (record { few_properties = omega arith; few_conditions = omega arith; few_formulas = omega arith; rising = tt; listed = tt; words = refl });
    }
