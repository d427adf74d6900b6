-- Going over the formulas of a book, one part of the board after the other.
use Rattle.std.proofs.Common.{◌≡◌, ℕ, ◌+◌, ◌-◌, ◌*◌, ◌<◌, ◌≤◌, Bool, List, ◌++◌, length, get_or, take, drop, replicate, sym, ap, ◌∙◌, subst, ap₂, arith, rules, below_more}
use borrow.Rule.Slice.PartMut.{put_mid}
use Rattle.std.proofs.lemmas.List.{take-take, drop-drop, take-append-le, length-replicate}
use Rattle.std.proofs.Math.Seq.{drop-append-add, drop-append_seam, take-append_seam}
use Rattle.std.proofs.lemmas.Slice.{overwrites}
use Rattle.scale.specs.Laws.{Ops}
use Rattle.host.specs.declared.rows.Row.{Row}
use Rattle.ftpl.specs.Properties.{numbered_value}
use Rattle.ftpl.specs.declared.properties.Property.{Property}
use Rattle.ftpl.specs.declared.formulas.EventList.{EventList}
use Rattle.ftpl.specs.declared.formulas.Formula.{Formula}
use Rattle.ftpl.specs.declared.formulas.Slot.TheVariants.{First, Second, Third, Fourth}
use Rattle.monitor.specs.Monitor.{State, told_by, step, step_with}
use Rattle.monitor.specs.Layout.{viewed}
use Rattle.monitor.specs.Boards.{room, part, working, Stands, Stepped, Ready, Tidy, values_in}
use Rattle.monitor.proofs.Spans.{drop_on, behind, ahead}
use Rattle.monitor.proofs.Filled.{one_stands}

-- of the parts those before n are good, and from there on the board is as it was
pub record Gone {V : Type 0} (Good : ℕ → List V → Type 0) (old now : List V) (n : ℕ) : Type 0 where
  pub done : (i : ℕ) → i < n → Good i (part i now)
  pub todo : drop (40 * n) now ≡ drop (40 * n) old

pub gone_more : {V : Type 0} (Good : ℕ → List V → Type 0) (old now new : List V) (n : ℕ)
    → Gone Good old now n
    → Good n (part n new)
    → take (40 * n) new ≡ take (40 * n) now
    → drop (40 * n + 40) new ≡ drop (40 * n + 40) now
    → Gone Good old new (n + 1)
gone_more Good old now new n g here before beyond =
    let size : 40 * (n + 1) ≡ 40 * n + 40 = omega arith in
    record {
      done = below_more (λ i. Good i (part i new)) n
          (λ i h. subst (Good i) (sym (ahead new now (40 * n) (40 * i) (40 * i + 40) (omega arith) before)) (g.done i h))
          here;
      todo = ap (λ k. drop k new) size ∙ beyond ∙ drop_on now old (40 * n) (40 * n + 40) (omega arith) g.todo ∙ ap (λ k. drop k old) (sym size);
    }

-- the part at n is written over
pub gone_put : {V : Type 0} (Good : ℕ → List V → Type 0) (old now ys : List V) (n : ℕ)
    → Gone Good old now n
    → 40 * n + 40 ≤ length now
    → length ys ≡ 40
    → Good n ys
    → Gone Good old (put_mid (40 * n) ((40 * n + 40) - 40 * n) now ys) (n + 1)
gone_put Good old now ys n g inside long here =
    let new = put_mid (40 * n) ((40 * n + 40) - 40 * n) now ys in
    let same : part n new ≡ ys = search (rules, overwrites) in
    let front : take (40 * n) new ≡ take (40 * n) now = search (rules, overwrites) in
    let back : drop (40 * n + 40) new ≡ drop (40 * n + 40) now = search (rules, overwrites) in
    gone_more Good old now new n g (subst (Good n) (sym same) here) front back

-- a part that is still to be gone on with
pub part_todo : {V : Type 0} (old now : List V) (n : ℕ) → drop (40 * n) now ≡ drop (40 * n) old → part n now ≡ part n old
part_todo old now n e = behind now old (40 * n) (40 * n) (40 * n + 40) (omega arith) e

-- past the last part
pub gone_rest : {V : Type 0} (Good : ℕ → List V → Type 0) (old now : List V) (n count : ℕ) → n ≤ count → Gone Good old now n → drop (40 * count) now ≡ drop (40 * count) old
gone_rest Good old now n count h g = drop_on now old (40 * n) (40 * count) (omega arith) g.todo

module _ {V : Type 0} (s : Ops V) where
  -- the part of the formula at i, gone on with
  abbrev pub Going : List Formula → (Formula → State V → State V) → List V → ℕ → List V → Type 0
  Going fs go old i now = (f : Formula) → Stands fs i f → viewed s now ≡ go f (viewed s (part i old))

  pub going_here : {fs : List Formula} {i : ℕ} (go : Formula → State V → State V) (old : List V) (now : State V) (x : Formula) → x ≡ get_or fs i x → now ≡ go x (viewed s (part i old)) → (f : Formula) → Stands fs i f → now ≡ go f (viewed s (part i old))
  going_here {fs} {i} go old now x is e f st = e ∙ ap (λ (y : Formula). go y (viewed s (part i old))) (sym (one_stands x st is))

  values_ready : (t : List Row) (ps : List Property) (fs : List Formula) (xs : List V) (event : EventList → Bool) → Ready s t ps fs xs → (i : ℕ) (f : Formula) → Stands fs i f → values_in s xs f.leaves ≡ told_by (record { value = numbered_value s t ps; event = event }) f.leaves
  values_ready t ps fs xs event r i f st = λ k. record { first = r i f First st k; second = r i f Second st k; third = r i f Third st k; fourth = r i f Fourth st k }

  -- the working values are filled, each part goes on, and the working values are cleared
  pub advanced : (t : List Row) (ps : List Property) (fs : List Formula) (event : EventList → Bool) (filled cleared b rest behind before parts : List V) →
      let base = 40 * length fs in
      let new = parts ++ (cleared ++ behind) in
      before ≡ take base b → rest ≡ drop base b → behind ≡ drop 64 rest → base + 64 ≤ length b → Ready s t ps fs filled
      → Stepped s fs (λ f. step_with s f (values_in s filled f.leaves) event) before parts → length parts ≡ base → cleared ≡ replicate 64 s.bottom
      → Stepped s fs (λ f. step s f (record { value = numbered_value s t ps; event = event })) b new × Tidy s (length fs) b new
  advanced t ps fs event filled cleared b rest behind before parts e d k fits ready stepped long empty = (
    λ i f st.
        let inside = st.inside in
        let within : 40 * i + 40 ≤ 40 * length fs = omega arith in
        let base = 40 * length fs in
        ap (viewed s) (ahead (parts ++ (cleared ++ behind)) parts base (40 * i) (40 * i + 40) within (take-append-le base parts _ (omega arith)))
        ∙ stepped i f st
        ∙ ap₂ (λ y p. step_with s f y event (viewed s p)) (values_ready t ps fs filled event ready i f st) (ahead before b base (40 * i) (40 * i + 40) within (ap (take base) e ∙ take-take base base b (omega arith))),
    record { cleared = mid ∙ empty; beyond = behind_all },
  )
    where
      count : length cleared ≡ 64
      count = ap length empty ∙ length-replicate 64 s.bottom

      mid : working (length fs) (parts ++ (cleared ++ behind)) ≡ cleared
      mid =
          let xs = parts ++ (cleared ++ behind) in
          let size : (40 * length fs + 64) - 40 * length fs ≡ length cleared = omega (arith, count) in
          ap (λ n. take n (drop (40 * length fs) xs)) size
          ∙ ap (take (length cleared)) (ap (λ n. drop n xs) (sym long) ∙ drop-append_seam parts (cleared ++ behind))
          ∙ take-append_seam cleared behind

      behind_all : drop (room (length fs)) (parts ++ (cleared ++ behind)) ≡ drop (room (length fs)) b
      behind_all =
          ap (λ n. drop (n + 64) (parts ++ (cleared ++ behind))) (sym long)
          ∙ drop-append-add parts (cleared ++ behind) 64
          ∙ ap (λ n. drop n (cleared ++ behind)) (sym count)
          ∙ drop-append_seam cleared behind
          ∙ k
          ∙ ap (drop 64) d
          ∙ drop-drop 64 (40 * length fs) b
