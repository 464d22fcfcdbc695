-- Laws of a region list in bytes: its room is that of the numbers that it holds, and the ways out of what is asked of it. Assumes nothing.
use Rattle.std.specs.Prelude.{◌≡◌, Bool, true, false, List, [], ◌∷◌, ℕ, ◌+◌, ◌*◌, ◌/◌, ◌≤◌, ◌<◌, length, get_or}
use Rattle.std.proofs.Common.{refl, ap, ◌∙◌, arith}
use Rattle.std.proofs.Math.Nat.{div-div-eq-div-mul}
use Rattle.search.specs.Promise.{Gives, Steps}
use Rattle.common.specs.Entry.{rows, room, shaped, wide}
use Rattle.common.specs.Refusals.{given, refused}
use Rattle.cover.specs.Cursor.{passed, cover_answer, cover_next}
use Rattle.cover.proofs.CursorLaws.{cover_refused, cover_past, cover_before, cover_found}
use Rattle.cover.specs.Shape.{misshapen, region_at}
use Rattle.cover.specs.ShapeLaws.{misshapen-over, misshapen_no, misshapen_yes, region_there, region_none}
use Rattle.cells.specs.Bytes.{cells, row_bytes}
use Rattle.cells.specs.CellLaws.{length-cells}

-- ---- the room of a byte run
module _ (list : List ℕ) where
  same-room : length (cells list) / wide ≡ length list / row_bytes
  same-room = omega (arith, length-cells list, div-div-eq-div-mul (length list) 4 wide)

  pub bytes_fit : (n : ℕ) → n ≤ length list / row_bytes → n ≤ room wide (cells list)
  bytes_fit n h = omega (arith, same-room)

  -- ---- the ways out of the shape's test
  pub bytes_over : (n len : ℕ) → length list / row_bytes < n → true ≡ misshapen (cells list) n len
  bytes_over n len h = misshapen-over (cells list) n len (omega (arith, same-room))

  module _ (n len : ℕ) (h : n ≤ length list / row_bytes) (y : Bool) where
    pub bytes_shaped : y ≡ true → Gives (shaped 0 len (rows wide n (cells list))) y → false ≡ misshapen (cells list) n len
    bytes_shaped e g = misshapen_no (cells list) n len (bytes_fit n h) y e g

    pub bytes_misshapen : y ≡ false → Gives (shaped 0 len (rows wide n (cells list))) y → true ≡ misshapen (cells list) n len
    bytes_misshapen e g = misshapen_yes (cells list) n len (bytes_fit n h) y e g

  -- ---- the ways out of a query
  module _ (count index place : ℕ) where
    pub bytes_refused : length list / row_bytes < count → Steps (cover_answer wide (cells list) count index place) (cover_next wide (cells list) count index place) (refused 5) index
    bytes_refused h = cover_refused wide (cells list) count index place (length (cells list)) (record { answer = refl }) (omega (arith, same-room))

    module _ (i : ℕ) (fits : count ≤ length list / row_bytes) (g : Gives (passed wide (cells list) count index place) i) where
      pub bytes_past : count ≤ i → Steps (cover_answer wide (cells list) count index place) (cover_next wide (cells list) count index place) (given []) i
      bytes_past h = cover_past wide (cells list) count index place (length (cells list)) (record { answer = refl }) (bytes_fit count fits) i g h

      pub bytes_before : (start : ℕ) → place < start → Gives (get_or (cells list) (i * wide) 0) start → i < count
          → Steps (cover_answer wide (cells list) count index place) (cover_next wide (cells list) count index place) (given []) i
      bytes_before start m s h = cover_before wide (cells list) count index place (length (cells list)) (record { answer = refl }) (bytes_fit count fits) i g start m s h

      pub bytes_found : (start stop : ℕ) → start ≤ place → Gives (get_or (cells list) (i * wide) 0) start → Gives (get_or (cells list) (i * wide + 1) 0) stop → i < count
          → Steps (cover_answer wide (cells list) count index place) (cover_next wide (cells list) count index place) (given (stop ∷ [])) i
      bytes_found start stop m s e h = cover_found wide (cells list) count index place (length (cells list)) (record { answer = refl }) (bytes_fit count fits) i g start stop m s e h

  -- ---- a region
  pub bytes_region : (k a b : ℕ) → k < length list / row_bytes → Gives (get_or (cells list) (k * wide) 0) a → Gives (get_or (cells list) (k * wide + 1) 0) b → Gives (region_at (cells list) k) (record { start = a; end = b })
  bytes_region k a b h ga gb =
      let w = region_there (cells list) k (omega (arith, same-room)) in
      record { answer = ap (λ (x : ℕ). record { start = x; end = b }) ga.answer ∙ ap (λ (x : ℕ). record { start = get_or (cells list) (k * wide) 0; end = x }) gb.answer ∙ w.answer }

  pub bytes_none : (k : ℕ) → length list / row_bytes ≤ k → Gives (region_at (cells list) k) (record { start = 0; end = 0 })
  bytes_none k h = region_none (cells list) k (omega (arith, same-room))
