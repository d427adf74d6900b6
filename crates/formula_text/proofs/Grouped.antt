-- Leaves and groups joined by signs, or the word at which they stopped.
use Rattle.std.proofs.Common.{◌≡◌, ℕ, ◌+◌, ◌-◌, ◌<◌, ◌≤◌, Bool, true, false, cond, ◌&&◌, eqb, ltb, List, [], ◌∷◌, ◌++◌, length, get_or, codes, sym, refl, ap, ◌∙◌, subst, true≢false, append_assoc, append-nil, arith, length-append}
use Rattle.std.specs.Str.{bytes_eq}
use Rattle.std.proofs.lemmas.Bool.{cond-false, ne_eqb}
use Rattle.ftpl.specs.declared.formulas.Leaf.{Leaf}
use Rattle.ftpl.specs.declared.formulas.Trace.{Trace}
use Rattle.book_text.specs.declared.parts.Stop.{Stop}
use Rattle.book_text.specs.declared.parts.Stop.TheVariants.{Wrong, Memory}
use Rattle.book_text.specs.Rules.{Text, Level, loose, tight, plain}
use Rattle.book_words.specs.Cuts.{part as mid}
use Rattle.book_text.proofs.Steps.{mid_first, mid_one, mid_sign, begun}
use Rattle.book_words.proofs.Parting.{part_join as mid_join}
use Rattle.formula_text.specs.declared.places.Place.{Place}
use Rattle.formula_text.specs.declared.places.Part.{Part}
use Rattle.formula_text.specs.Rules.{Tree, joined, either, flat, size, shape, numbered, Reads, a_group, one_tight, and_tight, one_loose, or_loose}
use Rattle.formula_text.specs.States.{State, dead, ended, bracket, closing, tracing, done, join_step, trace_step, step, run, Stuck}
use Rattle.formula_text.specs.Took.{fill, Unjoined, Shut, Took, Tracks, Failed}
use Rattle.formula_text.proofs.Steps.{run_append, stuck_here, stuck_after, stuck_step}
use Rattle.formula_text.proofs.Traced.{complete, at_and, at_or, at_open, fill_append, some_leaf}

-- the two signs that join leaves
pub data Sign : Type 0 where
  ands : Sign
  ors : Sign

abbrev pub sign_text : Sign → Text
sign_text ands = codes "&"
sign_text ors = codes "|"

abbrev pub op : {A : Type 0} → Sign → Tree A → Tree A → Tree A
op ands f g = joined f g
op ors f g = either f g

-- what a sign joins, and what it makes
abbrev pub part : Sign → Level
part ands = plain
part ors = tight

abbrev pub whole : Sign → Level
whole ands = tight
whole ors = loose

make : {n d : ℕ} (g : Sign) {p q : List Text} {f h : Tree Leaf} → Reads n (part g) d p f → Reads n (whole g) d q h → Reads n (whole g) d (p ++ (sign_text g ∷ q)) (op g f h)
make ands r s = and_tight r s
make ors r s = or_loose r s

alone : {n d : ℕ} (g : Sign) {p : List Text} {f : Tree Leaf} → Reads n (part g) d p f → Reads n (whole g) d p f
alone ands r = one_tight r
alone ors r = one_loose r

flat_op : (g : Sign) (f h : Tree Leaf) → flat (op g f h) ≡ flat f ++ flat h
flat_op ands f h = refl
flat_op ors f h = refl

numbered_op : (g : Sign) (k : ℕ) (f h : Tree Leaf) → numbered k (op g f h) ≡ op g (numbered k f) (numbered (k + size f) h)
numbered_op ands k f h = refl
numbered_op ors k f h = refl

size_op : (g : Sign) (f h : Tree Leaf) → size (op g f h) ≡ size f + size h
size_op g f h = ap length (flat_op g f h) ∙ length-append (flat f) (flat h)

at_sign : (n : ℕ) (b : Bool) (d k : ℕ) (g : Sign) → k < 4 → step n (done b d k) (sign_text g) ≡ tracing b d k
at_sign n b d k ands h = at_and n b d k h
at_sign n b d k ors h = at_or n b d k h

shut_alone : (g : Sign) (s : List Text) (e k : ℕ) → Shut (part g) s e k → Unjoined s e k (sign_text g) → Shut (whole g) s e k
shut_alone ands s e k h u = u
shut_alone ors s e k h u = (h, u)

-- the sign stands at e, and a leaf may follow
pub record Joins (s : List Text) (e k : ℕ) (t : Text) : Type 0 where
  pub room : k < 4
  pub sign : get_or s e [] ≡ t
  pub inside : e < length s

pub mid_more : (s : List Text) (a b : ℕ) (t : Text) → a ≤ b → b < length s → get_or s b [] ≡ t → mid s a (b + 1) ≡ mid s a b ++ (t ∷ [])
mid_more s a b t h l q = mid_join s a b (b + 1) h (omega arith) ∙ ap (λ z. mid s a b ++ z) (mid_one s b l ∙ ap (λ z. z ∷ []) q)

pub mid_onward : (s : List Text) (a b : ℕ) (t : Text) (p : List Text) → a ≤ b → b < length s → get_or s b [] ≡ t → mid s a b ++ (t ∷ p) ≡ mid s a (b + 1) ++ (p ++ [])
mid_onward s a b t p h l q = ap (λ z. mid s a b ++ (t ∷ z)) (sym (append-nil p)) ∙ sym (append_assoc (mid s a b) (t ∷ []) (p ++ [])) ∙ ap (λ z. z ++ (p ++ [])) (sym (mid_more s a b t h l q))

module _ {l : Level} {n d : ℕ} {s : List Text} {a : Place} {x : Part} (w : Took l n d s a x) (h : d ≤ 8) (b : Bool) where
  pub took_run : run n (tracing b (8 - d) a.count) (mid s a.at x.place.at) ≡ done b (8 - d) x.place.count
  took_run =
      ap (run n (tracing b (8 - d) a.count)) (sym (append-nil (mid s a.at x.place.at)))
      ∙ complete w.reads b (8 - d) a.count (omega arith) (omega (arith, w.counted, w.few)) []
      ∙ ap (done b (8 - d)) (sym w.counted)

  -- where nothing may follow what was read
  pub took_stuck : step n (done b (8 - d) x.place.count) (get_or s x.place.at []) ≡ dead → Stuck n (Tracks n l d a.count) (tracing b (8 - d) a.count) s a.at x.place.at
  took_stuck e =
      stuck_after s a.at x.place.at x.place.at (omega (arith, w.ahead)) took_run
      (λ p y. ([], subst (λ z. Tracks n l d a.count (mid s a.at x.place.at ++ (z ++ []))) (sym y) (subst (λ z. Tracks n l d a.count z) (sym (append-nil (mid s a.at x.place.at))) (w.tree, w.reads, omega (arith, w.counted, w.few)))))
      (stuck_here {Q = λ p. p ≡ []} s x.place.at tt w.inside ([], refl) e)

  pub took_on : (g : Sign) → Joins s x.place.at x.place.count (sign_text g) → run n (tracing b (8 - d) a.count) (mid s a.at (x.place.at + 1)) ≡ tracing b (8 - d) x.place.count
  took_on g j =
      ap (run n (tracing b (8 - d) a.count)) (mid_more s a.at x.place.at (sign_text g) (omega (arith, w.ahead)) j.inside j.sign)
      ∙ run_append n (tracing b (8 - d) a.count) (mid s a.at x.place.at) (sign_text g ∷ [])
      ∙ ap (λ z. step n z (sign_text g)) took_run
      ∙ at_sign n b (8 - d) x.place.count g j.room

module _ (g : Sign) {n d : ℕ} {s : List Text} {a : Place} (x : Part) (w : Took (part g) n d s a x) where
  pub took_alone : Unjoined s x.place.at x.place.count (sign_text g) → Took (whole g) n d s a x
  took_alone u = record { ahead = w.ahead; inside = w.inside; tree = w.tree; reads = alone g w.reads; counted = w.counted; more = w.more; few = w.few; slots = w.slots; filled = w.filled; shut = shut_alone g s x.place.at x.place.count w.shut u }

  module _ (j : Joins s x.place.at x.place.count (sign_text g)) where
    pub failed_join : d ≤ 8 → (b : Bool) (r : Stop) → Failed n (Tracks n (whole g) d x.place.count) (tracing b (8 - d) x.place.count) s (x.place.at + 1) r → Failed n (Tracks n (whole g) d a.count) (tracing b (8 - d) a.count) s a.at r
    failed_join h b (Wrong e) f =
        stuck_after s a.at (x.place.at + 1) e (omega (arith, w.ahead)) (took_on w h b g j)
        (λ p y. ([], (op g w.tree y.0, subst (λ z. Reads n (whole g) d z (op g w.tree y.0)) (mid_onward s a.at x.place.at (sign_text g) p (omega (arith, w.ahead)) j.inside j.sign) (make g w.reads y.1), omega (arith, w.counted, y.2, size_op g w.tree y.0))))
        f
    failed_join h b Memory f = tt

    pub took_join : (y : Part) (t : Trace) → Took (whole g) n d s (record { at = x.place.at + 1; count = x.place.count; leaves = x.place.leaves }) y → shape t ≡ op g (shape x.trace) (shape y.trace) → Took (whole g) n d s a (record { trace = t; place = y.place })
    took_join y t v e =
        let f = w.tree in
        let h = v.tree in
        record {
          ahead = omega (arith, w.ahead, v.ahead);
          inside = v.inside;
          tree = op g f h;
          reads = subst (λ z. Reads n (whole g) d z (op g f h)) (sym (mid_sign s a.at x.place.at y.place.at (sign_text g) (omega (arith, w.ahead)) (omega (arith, v.ahead)) v.inside j.sign)) (make g w.reads v.reads);
          counted = omega (arith, w.counted, v.counted, size_op g f h);
          more = omega (arith, w.more, v.more);
          few = v.few;
          slots = e ∙ (λ i. op g (w.slots i) ((v.slots ∙ ap (λ z. numbered z h) w.counted) i)) ∙ sym (numbered_op g a.count f h);
          filled = v.filled ∙ (λ i. fill (w.filled i) (w.counted i) (flat h)) ∙ sym (fill_append a.leaves a.count (flat f) (flat h)) ∙ ap (fill a.leaves a.count) (sym (flat_op g f h));
          shut = v.shut;
        }

unjoined : (b : Bool) (d k : ℕ) (s : List Text) (e : ℕ) (t : Text) (rest : State) → Unjoined s e k t → rest ≡ dead → cond (bytes_eq (get_or s e []) t) (join_step b d k) rest ≡ dead
unjoined b d k s e t rest u r = by_cases (bytes_eq (get_or s e []) t) (ltb k 4) u
  where
    by_cases : (y c : Bool) → (c && y) ≡ false → cond y (cond c (tracing b d k) dead) rest ≡ dead
    by_cases true true h = absurd (true≢false h)
    by_cases true false h = refl
    by_cases false c h = r

-- inside a group only the closing parenthesis is left to follow
stops_inside : (n : ℕ) (b : Bool) (d k : ℕ) (s : List Text) (e : ℕ) → 0 < d → Shut loose s e k → bytes_eq (get_or s e []) (codes ")") ≡ false → step n (done b d k) (get_or s e []) ≡ dead
unfolding step
stops_inside n b d k s e h u q =
    unjoined b d k s e (codes "&") _ u.0
    (unjoined b d k s e (codes "|") _ u.1
    (cond-false (bytes_eq (get_or s e []) (codes ")")) _ _ q ∙ ends (bytes_eq (get_or s e []) (codes "\n")) (bytes_eq (get_or s e []) (codes "until")) b (eqb d 0) (ne_eqb d 0 (λ z. omega arith))))
  where
    ends : (x y b z : Bool) → z ≡ false → cond x (cond z ended dead) (cond y (cond (b && z) (bracket closing) dead) dead) ≡ dead
    ends x y b true h = absurd (true≢false h)
    ends true y b false h = refl
    ends false false b false h = refl
    ends false true true false h = refl
    ends false true false false h = refl

-- outside of parentheses only the end of the line, and perhaps `until`
pub stops_outside : (n : ℕ) (b : Bool) (k : ℕ) (s : List Text) (e : ℕ) → Shut loose s e k → bytes_eq (get_or s e []) (codes "\n") ≡ false → (b ≡ true → bytes_eq (get_or s e []) (codes "until") ≡ false) → step n (done b 0 k) (get_or s e []) ≡ dead
unfolding step
stops_outside n b k s e u q r =
    unjoined b 0 k s e (codes "&") _ u.0
    (unjoined b 0 k s e (codes "|") _ u.1
    (closes (bytes_eq (get_or s e []) (codes ")")) _ (cond-false (bytes_eq (get_or s e []) (codes "\n")) _ _ q ∙ untils b (bytes_eq (get_or s e []) (codes "until")) r)))
  where
    closes : (b : Bool) (x : State) → x ≡ dead → cond b dead x ≡ dead
    closes true x h = refl
    closes false x h = h

    untils : (b y : Bool) → (b ≡ true → y ≡ false) → cond y (cond (b && true) (bracket closing) dead) dead ≡ dead
    untils b false h = refl
    untils false true h = refl
    untils true true h = absurd (true≢false (h refl))

module _ (n d : ℕ) (s : List Text) (a : Place) (h : 0 < d) (l : d ≤ 8) (q : get_or s a.at [] ≡ codes "(") where
  pub open_inside : a.at < length s
  open_inside = begun s a.at 40 [] q

  opened : (b : Bool) → step n (tracing b (8 - d) a.count) (get_or s a.at []) ≡ tracing b (8 - (d - 1)) a.count
  opened b =
      let m : 8 - d + 1 ≡ 8 - (d - 1) = omega arith in
      ap (step n (tracing b (8 - d) a.count)) q ∙ at_open n b (8 - d) a.count (omega arith) ∙ ap (λ z. tracing b z a.count) m

  closed : (p : List Text) → Tracks n loose (d - 1) a.count p → (u : List Text) × Tracks n plain d a.count (get_or s a.at [] ∷ (p ++ u))
  closed p y =
      let m : d - 1 + 1 ≡ d = omega arith in
      (codes ")" ∷ [], (y.0, subst (λ z. Reads n plain d (z ∷ (p ++ (codes ")" ∷ []))) y.0) (sym q) (subst (λ i. Reads n plain i (codes "(" ∷ (p ++ (codes ")" ∷ []))) y.0) m (a_group y.1)), y.2))

  pub failed_group : (b : Bool) (r : Stop) → Failed n (Tracks n loose (d - 1) a.count) (tracing b (8 - (d - 1)) a.count) s (a.at + 1) r → Failed n (Tracks n plain d a.count) (tracing b (8 - d) a.count) s a.at r
  failed_group b (Wrong e) f = stuck_step s a.at e open_inside (opened b) closed f
  failed_group b Memory f = tt

  module _ (x : Part) (w : Took loose n (d - 1) s (record { at = a.at + 1; count = a.count; leaves = a.leaves }) x) where
    pub not_closed : (b : Bool) → bytes_eq (get_or s x.place.at []) (codes ")") ≡ false → Stuck n (Tracks n plain d a.count) (tracing b (8 - d) a.count) s a.at x.place.at
    not_closed b z = stuck_step s a.at x.place.at open_inside (opened b) closed (took_stuck w (omega arith) b (stops_inside n b (8 - (d - 1)) x.place.count s x.place.at (omega arith) w.shut z))

    pub took_group : get_or s x.place.at [] ≡ codes ")" → Took plain n d s a (record { trace = x.trace; place = record { at = x.place.at + 1; count = x.place.count; leaves = x.place.leaves } })
    took_group z =
        let b = x.place.at in
        let i = begun s b 41 [] z in
        let m : d - 1 + 1 ≡ d = omega arith in
        let e = mid_first s a.at (b + 1) (omega (arith, w.ahead)) (omega arith) ∙ (λ i. q i ∷ mid_more s (a.at + 1) b (codes ")") (omega (arith, w.ahead)) (begun s b 41 [] z) z i) in
        record {
          ahead = omega (arith, w.ahead);
          inside = omega arith;
          tree = w.tree;
          reads = subst (λ y. Reads n plain d y w.tree) (sym e) (subst (λ i. Reads n plain i (codes "(" ∷ (mid s (a.at + 1) b ++ (codes ")" ∷ []))) w.tree) m (a_group w.reads));
          counted = w.counted;
          more = w.more;
          few = w.few;
          slots = w.slots;
          filled = w.filled;
          shut = tt;
        }

pub too_deep : (n : ℕ) (b : Bool) (k : ℕ) (s : List Text) (a : ℕ) → 1 ≤ n → k < 4 → a ≤ length s → get_or s a [] ≡ codes "(" → Stuck n (Tracks n plain 0 k) (tracing b 8 k) s a a
unfolding step
too_deep n b k s a h l i q = stuck_here s a tt i (some_leaf n 0 k h l) (ap (trace_step b 8 k) q)
