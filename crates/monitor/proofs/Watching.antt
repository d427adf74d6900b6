-- From one step of each formula to the whole path of a book.
use Rattle.std.proofs.Common.{◌≡◌, ℕ, zero, suc, ◌-◌, ◌*◌, ◌<◌, ◌≤◌, List, [], ◌∷◌, ◌++◌, map, length, get_or, drop, Some, None, vec_items, vec_len, sym, ap, ◌∙◌, subst, arith}
use Rattle.std.proofs.lemmas.List.{map-append, get_or-map}
use Rattle.std.proofs.lemmas.Option.{slice_get_within, get_or_from_slice_get}
use Rattle.scale.specs.Laws.{Ops, Laws}
use Rattle.ftpl.specs.Numbers.{numbered}
use Rattle.ftpl.specs.Paths.{Position, position_at}
use Rattle.ftpl.specs.Formulas.{seen, formula_value, shown_value}
use Rattle.ftpl.specs.declared.books.Book.{Book}
use Rattle.ftpl.specs.declared.properties.Property.{Property}
use Rattle.ftpl.specs.declared.formulas.Formula.{Formula}
use Rattle.monitor.specs.Monitor.{begin, step, run, shown}
use Rattle.monitor.specs.Layout.{viewed}
use Rattle.monitor.specs.Boards.{room, part, Stepped, Watches, Tidy}
use Rattle.monitor.proofs.Spans.{drop_on}
use Rattle.monitor.proofs.Whole.{run_more}
use Rattle.monitor.proofs.Numbered.{segment, segment_list, right_numbered}

module _ {V : Type 0} (s : Ops V) where
  pub tidy_by : (n m : ℕ) (old new : List V) → n ≡ m → Tidy s n old new → Tidy s m old new
  tidy_by n m old new e h = subst (λ k. Tidy s k old new) e h

  -- the parts were started before
  pub tidy_since : (n : ℕ) (old mid new : List V) → drop (40 * n) mid ≡ drop (40 * n) old → Tidy s n mid new → Tidy s n old new
  tidy_since n old mid new e h = record { cleared = h.cleared; beyond = h.beyond ∙ drop_on mid old (40 * n) (room n) (omega arith) e }

  module _ (book : Book) (x : Position) where
    abbrev fs : List Formula
    fs = vec_items book.formulas

    abbrev ps : List Property
    ps = vec_items book.properties

    pub watches_first : (mid new : List V) → ((i : ℕ) → i < vec_len book.formulas → viewed s (part i mid) ≡ begin s) → length fs ≡ vec_len book.formulas → Stepped s fs (λ f. step s f (seen s ps x)) mid new → Watches s book (x ∷ []) new
    watches_first mid new started long stepped = record { each = λ i f st. let inside = st.inside in stepped i f st ∙ ap (step s f (seen s ps x)) (started i (omega arith)) }

    pub watches_more : Laws s → (old new : List V) (path : List Position) → Stepped s fs (λ f. step s f (seen s ps x)) old new → Watches s book path old → Watches s book (path ++ (x ∷ [])) new
    watches_more p old new path stepped w = record {
      each = λ i f st.
          stepped i f st
          ∙ ap (step s f (seen s ps x)) (w.each i f st)
          ∙ sym (ap (run s f (begin s)) (map-append (seen s ps) path (x ∷ [])) ∙ run_more p f (begin s) (map (seen s ps) path) (seen s ps x));
    }

  -- what is shown of a formula that was watched over a path is its value there
  pub watched_value : Laws s → (ps : List Property) (f : Formula) (path : List Position) → 1 ≤ length path → shown s f (run s f (begin s) (map (seen s ps) path)) ≡ formula_value s ps path f 0
  watched_value p ps f path h =
      let x = λ (k : ℕ). seen s ps (position_at path k) in
      let size : length path ≡ suc (length path - 1) = omega arith in
      ap (λ xs. shown s f (run s f (begin s) xs)) (segment_list (seen s ps) (record { rows = []; event = None }) path ∙ ap (segment x 0) size)
      ∙ right_numbered p x f (length path - 1)

  -- a formula by its number
  pub shown_some : (ps : List Property) (fs : List Formula) (path : List Position) (n : ℕ) (f : Formula) → 1 ≤ n → n ≤ length fs → f ≡ get_or fs (n - 1) f → shown_value s ps fs path n ≡ formula_value s ps path f 0
  shown_some ps fs path zero f a b e = absurd (omega arith)
  shown_some ps fs path (suc m) f a b e =
      let on : suc m - 1 ≡ m = omega arith in
      get_or-map (λ g. formula_value s ps path g 0) fs m f s.bottom (omega arith)
      ∙ ap (λ g. formula_value s ps path g 0) (ap (λ k. get_or fs k f) (sym on) ∙ sym e)

-- where a formula with a number was found
pub numbered_here : (fs : List Formula) (n : ℕ) (f : Formula) → Some f ≡ numbered fs n → (1 ≤ n) × (n ≤ length fs) × (f ≡ get_or fs (n - 1) f)
numbered_here fs zero f e = absurd (cc e)
numbered_here fs (suc k) f e =
    let on : suc k - 1 ≡ k = omega arith in
    let inside = slice_get_within fs k f (sym e) in
    (omega arith, omega arith, sym (get_or_from_slice_get fs k f f (sym e)) ∙ ap (λ i. get_or fs i f) (sym on))
