-- Runs of the entries of both scanners of items: a host that makes a state by `new` and steps it until no value comes reads exactly the page's items. Assumes nothing.
-- The page: "each step takes a state and gives the answer with the next state", and "From place 0 the streaming and line scans are proved to yield the same items".
use Rattle.std.specs.Prelude.{◌≡◌, Bool, ℕ, ◌-◌, ◌≤◌, length, take}
use Rattle.std.proofs.Math.Path.{refl}
use Rattle.std.proofs.Common.{ap, subst, ◌∙◌, arith}
use mathlib.Core.List.{List, []}
use Rattle.search.specs.Search.{one_of}
use Rattle.common.specs.Items.{grammar, has, Apart, step_for}
use Rattle.common.specs.ItemLaws.{Heads}
use Rattle.common.specs.Scanning as scanning
use Rattle.common.specs.Scanning.{Scanner}
use Rattle.common.specs.ScanningLaws.{Lawful, turn_adv, step_inside, run}
use Rattle.common.specs.Sets.{set_of, accepted}
use Rattle.common.specs.TableLaws.{length-tabulate}
use Rattle.common.specs.Turn.{Turn, go, stop, found, drain}
use Rattle.common.specs.Turning.{Ahead, Adv, OnFound}
use Rattle.block_marker.specs.Marker as marker
use Rattle.block_marker.specs.MarkerLaws.{Marks}
use Rattle.block_marker.specs.MarkerRun.{lawful as marker-lawful, turn_heads as marker-heads, fresh-items as marker-items}
use Rattle.block_numbered.specs.Numbered as numbered
use Rattle.block_numbered.specs.NumberedLaws.{Delimits}
use Rattle.block_numbered.specs.NumberedRun.{lawful as numbered-lawful, turn_heads as numbered-heads, fresh-items as numbered-items}
use Rattle.panel.specs.State.{Made, Stepped, item_limits, item_show, item_read, item_stepper, marker_cells, marker_from, marker_stepper, numbered_cells, numbered_from, numbered_stepper}
use Rattle.panel.specs.Back.{Holds, Byte, ByteRun, values_in}
use Rattle.common.specs.EachLaws.{each_get_or}
use Rattle.panel.specs.BackLaws.{ItemHeld, made_back, item_small, item-fresh, item-next}
use Rattle.panel.specs.RunLaws.{StepReady, Fit, fit_each, said_has, hosted_run}

-- ---- any scanner of items; P is what the turns find besides, and `fit` says that an item's values fit the answer run
module _ {S A : Type 0} {c : Scanner S A} {Lies : ℕ → ℕ → A → Type 0} (w : Lawful c Lies) (wider : (q n m : ℕ) (a : A) → q ≤ n → Lies n m a → Lies q m a) (P : A → Type 0) (set : List Bool) (s run₀ : List ℕ) (short : length s ≤ 4294967295) (room : 4 ≤ length run₀)
    (turns : (g : S) (q : ℕ) → OnFound P (scanning.turn c g set s q)) (fit : (q n : ℕ) (a : A) → n ≤ length s → Lies q n a → P a → Fit run₀ (c.values a)) where
  abbrev Lain : ℕ → ℕ → A → Type 0
  Lain q n a = Lies q n a × P a

  lain_adv : (g : S) → Adv Lain (scanning.turn c g set s) (length s)
  lain_adv g = record { ahead = λ q h. by q (scanning.turn c g set s q) ((turn_adv w g set s).ahead q h) (turns g q) }
    where
      by : (q : ℕ) (t : Turn A) → Ahead Lies q (length s) t → OnFound P t → Ahead Lain q (length s) t
      by q (go n) a o = a
      by q (stop v) a o = a
      by q (found x n) a o = (a.0, a.1, (a.2, o))

  In : S → Type 0
  In g = ItemHeld w g × ((c.fields g).pos ≤ length s)

  item_ready : (g : S) → In g → StepReady (item_stepper c set) item_small c.back s run₀ short g
  unfolding In scanning.answer scanning.first
  item_ready g p =
      let v = said_has c.values s (lain_adv g) (λ q n m a h l. (wider q n m a h l.0, l.1)) short (Fit run₀) (fit_each run₀ [] room (omega arith) tt) (λ q n a h l. fit q n a h l.0 l.1) (c.fields g).pos p.1 in
      record { held = p.0; serves = v.0; fit = v.1 }

  item_on : (g : S) → In g → In (scanning.state c g set s)
  unfolding In
  item_on g p = (item-next w g set s p.0, step_inside w set s short g (scanning.answer c g set s) (scanning.state c g set s) p.1 (record { answer = refl; next = refl }))

  -- what a host reads in n steps from a run that holds a state within the text: the first n of the items that its scan has before it
  pub items_run : (g : S) → ItemHeld w g → (c.fields g).pos ≤ length s → (state : List ℕ) → Holds (item_read c) (item_show c) item_limits state g
      → (after reply : List ℕ → List ℕ) (number : List ℕ → ℕ)
      → ((state : List ℕ) → Stepped (item_stepper c set) s (record { state = state; answer = run₀ }) (record { state = after state; answer = reply state }) (number state))
      → (n : ℕ) → drain (λ r. step_for c.back (values_in (reply r)) (after r)) n state ≡ take n (scanning.items c g set s)
  unfolding In
  items_run g h i state held after reply number keeps n =
      hosted_run (item_stepper c set) item_small c.back s run₀ short In item_ready item_on after reply number keeps n g (h, i) state held
      ∙ run w set s short g (λ k. scanning.answer c k set s) (λ k. scanning.state c k set s) (λ q j. record { answer = refl; next = refl }) n i

-- ---- the byte that heads an item is one of the text's
module _ (s : List ℕ) (text : ByteRun s) where
  head_byte : (x start : ℕ) → Heads s x start → Byte x
  head_byte x start w = subst Byte w.same (each_get_or Byte s 0 text (omega arith) (start - 2))

  -- a state run that `new` wrote, stepped by an entry that keeps its promise, gives the marker items of the text's lines
  pub marker_run : (eol sep tab : ℕ) (bytes run₀ : List ℕ) → eol ≤ 255 → sep ≤ 255 → tab ≤ 255 → length s ≤ 4294967295 → 16 ≤ length run₀ → (length (accepted (set_of bytes)) ≤ 3 → Apart (grammar eol sep tab (has (set_of bytes))))
      → (first state : List ℕ) → Made (marker_cells (marker.fresh eol sep tab (set_of bytes))) first state 0
      → (after reply : List ℕ → List ℕ) (number : List ℕ → ℕ) → ((state : List ℕ) → Stepped (marker_stepper (set_of bytes)) s (record { state = state; answer = run₀ }) (record { state = after state; answer = reply state }) (number state))
      → (n : ℕ) → drain (λ r. step_for (marker.scanner).back (values_in (reply r)) (after r)) n state ≡ take n (marker.markers (grammar eol sep tab (has (set_of bytes))) s)
  marker_run eol sep tab bytes run₀ a b c short room apart first state made after reply number keeps n =
      let g = marker.fresh eol sep tab (set_of bytes) in
      let h = item-fresh marker-lawful eol sep tab (set_of bytes) a b c in
      items_run marker-lawful (λ q n m i h l. (l.0, l.1, omega arith)) (Marks s) (set_of bytes) s run₀ short (omega arith) (λ g. marker-heads g (set_of bytes) s)
      (λ q n i h l v. fit_each run₀ (marker.values i) room (omega arith) (omega arith, (omega arith, (omega (arith, head_byte i.marker i.span.start v), tt)))) g h (omega arith) state
      (made_back marker_from marker_cells item_limits item_small g h first state made) after reply number keeps n
      ∙ ap (take n) (marker-items (set_of bytes) s eol sep tab (length-tabulate (one_of bytes) 256 0) apart)

  -- a state run that `new` wrote, stepped by an entry that keeps its promise, gives the numbered items of the text's lines
  pub numbered_run : (eol sep tab : ℕ) (bytes run₀ : List ℕ) → eol ≤ 255 → sep ≤ 255 → tab ≤ 255 → length s ≤ 4294967295 → 20 ≤ length run₀ → (length (accepted (set_of bytes)) ≤ 3 → numbered.DigitsApart (grammar eol sep tab (has (set_of bytes))))
      → numbered.NoDigit (grammar eol sep tab (has (set_of bytes))) → (first state : List ℕ) → Made (numbered_cells (numbered.fresh eol sep tab (set_of bytes))) first state 0
      → (after reply : List ℕ → List ℕ) (number : List ℕ → ℕ) → ((state : List ℕ) → Stepped (numbered_stepper (set_of bytes)) s (record { state = state; answer = run₀ }) (record { state = after state; answer = reply state }) (number state))
      → (n : ℕ) → drain (λ r. step_for (numbered.scanner).back (values_in (reply r)) (after r)) n state ≡ take n (numbered.numbers (grammar eol sep tab (has (set_of bytes))) s)
  numbered_run eol sep tab bytes run₀ a b c short room apart none first state made after reply number keeps n =
      let g = numbered.fresh eol sep tab (set_of bytes) in
      let h = item-fresh numbered-lawful eol sep tab (set_of bytes) a b c in
      items_run numbered-lawful (λ q n m i h l. (l.0, l.1, l.2, omega arith)) (Delimits s) (set_of bytes) s run₀ short (omega arith) (λ g. numbered-heads g (set_of bytes) s)
      (λ q n i h l v. fit_each run₀ (numbered.values i) room (omega arith) (omega arith, (omega arith, (omega (arith, head_byte i.delimiter i.span.start v), (omega arith, tt))))) g h (omega arith) state
      (made_back numbered_from numbered_cells item_limits item_small g h first state made) after reply number keeps n
      ∙ ap (take n) (numbered-items (set_of bytes) s eol sep tab (length-tabulate (one_of bytes) 256 0) apart none)
