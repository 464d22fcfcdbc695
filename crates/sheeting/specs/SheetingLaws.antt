-- Laws of the work sheet of a text by its rules: the ways out of a turn, what lets the loops go on, and the ways out of the entry. Assumes nothing.
use Rattle.std.specs.Prelude.{◌≡◌, refl, Bool, true, false, List, [], ◌∷◌, map, ℕ, ◌+◌, ◌*◌, ◌/◌, ◌≤◌, ◌<◌, ltb, leb, length, replicate, None, Some}
use Rattle.std.proofs.Common.{sym, ap, subst, ◌∙◌, append-nil, arith, lt-ltb, le-ltb}
use Rattle.search.specs.Promise.{Gives}
use Rattle.common.specs.Refusals.{given}
use Rattle.common.specs.Entry.{flatten, rows, wide}
use Rattle.common.specs.EntryLaws.{rows-flatten}
use Rattle.common.specs.Lists.{Wrote}
use Rattle.common.specs.Sets.{set_of}
use Rattle.common.specs.declared.grammar.Grammar.{Grammar}
use Rattle.rules.specs.Grammar.{Gram}
use Rattle.region.specs.Regions.{regions, built_by}
use Rattle.rules.specs.Tables.{gram_in, TablesOf}
use Rattle.rules.specs.TableLaws.{grammar_told}
use Rattle.rules.specs.declared.tables.Tables.{Tables}
use Rattle.region.specs.LoopLaws.{row-wide}
use Rattle.region.specs.MemoryLaws.{sound_zeros}
use Rattle.cover.specs.Cursor.{covers}
use Rattle.feed.specs.Items.{tested_place}
use Rattle.sheet.specs.Sheet.{five, inside, outside, sheet_of}
use Rattle.feed.specs.Feeds.{fresh_feed, taken}
use Rattle.feed.specs.FeedLaws.{Started, started}
use Rattle.sheet.specs.Parts.{left, Turned}
use Rattle.sheet.specs.LeftLaws.{started_onward, item_later, item-onward, left_end, left_hidden, left-shown, Writing, write_room, write_shown}
use Rattle.feed.specs.declared.item.SheetItem.{SheetItem}
use Rattle.sheet.specs.declared.item.Seen.{Seen}
use Rattle.sheet.specs.declared.item.Seen.TheVariants as seen
use Rattle.feed.specs.declared.Feed.{Feed}
use Rattle.feed.specs.declared.Taken.{Taken}
use Rattle.cells.specs.Bytes.{four}
use Rattle.cells.specs.Reply.{LaidIf, Replied}
use Rattle.cells.specs.ReplyLaws.{laid_there}
use Rattle.cells.specs.Poured.{ListRuns}
use Rattle.rules.specs.ByteRules.{ColumnRuns, inline_in, columns_in}
use Rattle.rules.specs.RuleLaws.{gram_folded}
use Rattle.cells.specs.PouredLaws.{pour_full, pour_done}
use Rattle.sheeting.specs.Hiding.{HidesFrom, PassedOn}
use Rattle.sheeting.specs.HidingLaws.{hides_first, hides_later}
use Rattle.sheeting.specs.Sheeting.{item_bytes, ItemPut, sheet_with, SheetPoured, left_by, SieveReady, ReadyBy, SieveTurned}
use Rattle.sheeting.specs.declared.hiding.Hider.{Hider}
use Rattle.sheeting.specs.declared.Sieve.{Sieve}
use Rattle.sheeting.specs.declared.Sieved.{Sieved}
use Rattle.region.specs.Region.{Caused, row_of}

-- ---- an item's bytes
pub item_size : (i : SheetItem) → length (item_bytes i) ≡ 20
item_size i = refl

-- the ways out of writing one; m is how many there is room for
module _ (n : ℕ) (i : SheetItem) (out : List ℕ) (m : ℕ) where
  pub put_past : m ≤ n → Gives (length out / 20) m → ItemPut i n out out n
  put_past h g =
      let t : ltb n (length out / 20) ≡ false = le-ltb n (length out / 20) (omega (arith, g.answer)) in
      record { next = simp t; list = simp t }

  pub put_there : (out' : List ℕ) → n < m → Gives (length out / 20) m → LaidIf (n * 20) (flatten four (five i)) out out' → ItemPut i n out out' (n + 1)
  put_there out' h g d =
      let t : ltb n (length out / 20) ≡ true = lt-ltb n (length out / 20) (omega (arith, g.answer)) in
      record { next = simp t; list = (laid_there (n * 20) (item_bytes i) out out' (omega (arith, g.answer)) d).list ∙ simp t }

-- two results for the same arguments are one
pub item_unique : {i : SheetItem} {n : ℕ} {out out' out'' : List ℕ} {r r' : ℕ} → ItemPut i n out out' r → ItemPut i n out out'' r' → (r ≡ r') × (out' ≡ out'')
item_unique a b = (a.next ∙ sym b.next, a.list ∙ sym b.list)

-- item k of those to write stands behind the k that are written
module _ {markers delims : List Bool} {s : List ℕ} {regions : List (List ℕ)} {all : List SheetItem} {out₀ out out' : List ℕ} {f f' : Feed} {k m : ℕ} {Goes : Type 0} {x : Seen} {i : SheetItem} where
  pub write_item : x ≡ seen.Shown i → Turned markers delims s regions Goes f x f' → Writing markers delims s regions item_bytes 20 all out₀ f out k → ItemPut i k out out' m
      → Writing markers delims s regions item_bytes 20 all out₀ f' out' m
  write_item e w c d =
      let t : ltb k (length out / 20) ≡ true = lt-ltb k (length out / 20) (omega (arith, write_room item_bytes 20 item_size e w c)) in
      write_shown item_bytes 20 item_size e w c (record { next = d.next ∙ simp t; list = d.list ∙ simp t })

-- ---- a turn
module _ (g : Gram) (markers delims : List Bool) (s : List ℕ) (w : Sieve) (t : Taken) where
  pub turned_end : (m : List ℕ) → t.head ≡ None → Gives (taken markers delims s w.feed) t → SieveReady g markers delims s w → SieveTurned g markers delims s m w (record { seen = seen.End; rest = record { feed = t.rest; hider = w.hider } })
  turned_end m e d r = left_end markers delims s (map row_of (regions g s)) r.low w.feed r.onward t d _ e

  module _ (i : SheetItem) (e : t.head ≡ Some i) (d : Gives (taken markers delims s w.feed) t) (r : SieveReady g markers delims s w) (p : ℕ) (at : Gives (tested_place i) p) where
    -- the item's place is not before the last one
    pub item_hides : HidesFrom g s p w.hider
    item_hides = hides_later g s p w.hider r.low (omega (arith, item_later markers delims s (map row_of (regions g s)) r.low w.feed r.onward t d i e, at.answer)) r.hides

    module _ (h : Hider) (m : List ℕ) (moved : PassedOn g s m p h) (y : Bool) where
      goes_on : ReadyBy g markers delims s m (record { feed = t.rest; hider = h })
      goes_on = record {
        ready = record {
          low = tested_place i;
          onward = item-onward markers delims s (map row_of (regions g s)) r.low w.feed r.onward t d i e;
          hides = rw at.answer at moved.passed.hides;
        };
        sound = moved.sound;
      }

      told : Gives (covers p (h.start ∷ h.stop ∷ [])) y → inside (map row_of (regions g s)) (tested_place i) ≡ y
      told v = rw (← at.answer) moved.passed.hidden ∙ sym v.answer

      pub turned_hidden : y ≡ true → Gives (covers p (h.start ∷ h.stop ∷ [])) y → SieveTurned g markers delims s m w (record { seen = seen.Hidden; rest = record { feed = t.rest; hider = h } })
      turned_hidden u v = left_hidden markers delims s (map row_of (regions g s)) r.low w.feed r.onward t d i e goes_on (told v ∙ u)

      pub turned_shown : y ≡ false → Gives (covers p (h.start ∷ h.stop ∷ [])) y → SieveTurned g markers delims s m w (record { seen = seen.Shown i; rest = record { feed = t.rest; hider = h } })
      turned_shown u v = left-shown markers delims s (map row_of (regions g s)) r.low w.feed r.onward t d i e goes_on (told v ∙ u)

-- ---- the loops
module _ (g : Gram) (markers delims : List Bool) (s : List ℕ) where
  -- unless a turn told the end it may go on
  module _ (m : List ℕ) (w : Sieve) (t : Sieved) where
    pub ready_hidden : t.seen ≡ seen.Hidden → SieveTurned g markers delims s m w t → ReadyBy g markers delims s m t.rest
    ready_hidden e v = (rw e at v.goes).0

    pub ready_shown : (i : SheetItem) → t.seen ≡ seen.Shown i → SieveTurned g markers delims s m w t → ReadyBy g markers delims s m t.rest
    ready_shown i e v = (rw e at v.goes).0

  -- the beginning, with a memory of zeros
  pub ready_first : (w : Sieve) → SieveReady g markers delims s w → ReadyBy g markers delims s (replicate 256 0) w
  ready_first w r = record { ready = r; sound = sound_zeros g s w.hider.next }

-- the rows of regions are read back from their numbers
pub region_rows : (l : List Caused) → rows wide (length l) (flatten row_of l) ≡ map row_of l
region_rows l = rw (← (append-nil (flatten row_of l))) (rows-flatten row_of wide row-wide l [])

-- ---- the ways out of pouring a sheet
module _ (g : Grammar) (z : Gram) (markers delims : List Bool) (s : List ℕ) (a : Feed) (short : length s ≤ 4294967295) (d : Gives (fresh_feed g markers delims s) a) where
  w : Started g markers delims s a
  w = started g markers delims s a short d

  -- all items are left, before all regions
  pub sheet_ready : SieveReady z markers delims s (record { feed = a; hider = record { start = 0; stop = 0; next = 0 } })
  sheet_ready = record { low = 0; onward = started_onward g markers delims s a w; hides = hides_first z s }

  sheet-left : left markers delims s (map row_of (regions z s)) a ≡ sheet_with g markers delims (regions z s) s
  unfolding left sheet_of
  sheet-left =
      rw (region_rows (regions z s)) (ap (outside (map row_of (regions z s))) w.same)

  -- how many they are
  pub shown-counted : (k : ℕ) → Gives (length (left_by z markers delims s (record { feed = a; hider = record { start = 0; stop = 0; next = 0 } }))) k → Gives (length (sheet_with g markers delims (regions z s) s)) k
  shown-counted k c = record { answer = c.answer ∙ ap length sheet-left }

  module _ (lent : ListRuns) (y : Bool) (f : Gives (leb (length (left markers delims s (map row_of (regions z s)) a)) (length lent.list / 20)) y) where
    pub sheet_full : y ≡ false → SheetPoured (sheet_with g markers delims (regions z s) s) lent lent 3
    sheet_full e = subst (λ (x : List SheetItem). SheetPoured x lent lent 3) sheet-left (pour_full item_bytes 20 (left markers delims s (map row_of (regions z s)) a) lent y f e)

    pub sheet_done : (after : ListRuns) (m k r : ℕ) → y ≡ true → 1 < m → Gives (length lent.answer / 4) m → Wrote item_bytes (left markers delims s (map row_of (regions z s)) a) lent.list after.list k
        → Replied (given (k ∷ [])) lent.answer after.answer r → SheetPoured (sheet_with g markers delims (regions z s) s) lent after r
    sheet_done after m k r e q n v d =
        subst (λ (x : List SheetItem). SheetPoured x lent after r) sheet-left (pour_done item_bytes 20 (left markers delims s (map row_of (regions z s)) a) lent y f after m k r e q n v d)

-- ---- by the rules and sets, folded
module _ (g : Grammar) (c : ColumnRuns) (mb db s : List ℕ) (markers delims : List Bool) (t : Tables) (w : TablesOf g (record { fence_bytes = c.fence_bytes; fence_mins = c.fence_mins; inline = inline_in c.inline }) t)
    (hm : Gives (set_of mb) markers) (hd : Gives (set_of db) delims) where
  sheet-same : sheet_with t.alphabet.grammar markers delims (regions (gram_in t) s) s ≡ sheet_with g (set_of mb) (set_of db) (built_by g (columns_in c) s) s
  sheet-same =
      ap (λ (x : Grammar). sheet_with x markers delims (regions (gram_in t) s) s) (grammar_told w) ∙ ap (λ (x : Gram). sheet_with g markers delims (regions x s) s) (gram_folded c w)
      ∙ ap (λ (x : List Bool). sheet_with g x delims (built_by g (columns_in c) s) s) hm.answer ∙ ap (λ (x : List Bool). sheet_with g (set_of mb) x (built_by g (columns_in c) s) s) hd.answer

  pub sheet_folded : (before after : ListRuns) (r : ℕ) → SheetPoured (sheet_with t.alphabet.grammar markers delims (regions (gram_in t) s) s) before after r
      → SheetPoured (sheet_with g (set_of mb) (set_of db) (built_by g (columns_in c) s) s) before after r
  sheet_folded before after r v = subst (λ (x : List SheetItem). SheetPoured x before after r) sheet-same v

  pub count_folded : (k r : ℕ) (run run' : List ℕ) → Gives (length (sheet_with t.alphabet.grammar markers delims (regions (gram_in t) s) s)) k → Replied (given (k ∷ [])) run run' r
      → Replied (given (length (sheet_with g (set_of mb) (set_of db) (built_by g (columns_in c) s) s) ∷ [])) run run' r
  count_folded k r run run' n d = subst (λ (x : ℕ). Replied (given (x ∷ [])) run run' r) (n.answer ∙ ap length sheet-same) d
