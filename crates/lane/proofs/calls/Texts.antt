-- The lane text as its loops over the carriers make it and its length.
use mathlib.Core.Path.{◌≡◌, refl, ap, ◌∙◌}
use mathlib.Core.Bool.{false}
use mathlib.Core.List.{List, [], ◌∷◌, ◌++◌}
use Prim.Native.Nat.{ℕ, suc, ◌+◌, ◌*◌, ◌≤◌, ◌<◌}
use native.Mathlib.Omega.{arith}
use lib.ListN.{length, get_or, take, length-append}
use lib.Seq.{slice}
use Rattle.text.specs.Numbers.{decimal}
use Rattle.text.specs.Lines.{line, written}
use Rattle.text.proofs.Laws.{decimal_at_most, length_line, length_written, place_fits, written_then, Put, Putting, putting_start, putting_end}
use Rattle.lane.specs.declared.Carrier.{Carrier}
use Rattle.lane.specs.declared.Road.{Road}
use Rattle.lane.specs.declared.layout.Figures.{Figures}
use Rattle.lane.specs.Limits.{longest_text}
use Rattle.lane.specs.Surface.{Tables}
use Rattle.lane.specs.Layout.{Words, state_with, state_of}
use Rattle.lane.specs.Rules.{broken}
use Rattle.lane.specs.Calls.{none}
use Rattle.lane.specs.Listing.{cars_key, carrier_text, carriers_text, lane_text}
use Rattle.lane.proofs.lists.Lists.{slice_next, slice_past}
use Rattle.lane.proofs.checks.Soundness.{SoundRoad, sound}
use Rattle.lane.proofs.Unbroken.{carriers_lawful}
use Rattle.lane.proofs.calls.Answers.{counted_most}

-- ---- lengths

-- the most digits of a word
pub digits_64 : (n : ℕ) → n < 18446744073709551616 → length (decimal n) ≤ 20
digits_64 n h = decimal_at_most 20 n (omega arith) (omega arith)

pub length_carrier : (c : Carrier)
    → length (carrier_text c) ≡ 31 + length (decimal c.number) + length (decimal c.position) + length (decimal c.speed) + length (decimal c.length) + length (decimal c.rate)
unfolding carrier_text
length_carrier c = simp (length-append, length_line) (omega arith)

-- the lines of a carrier have 31 bytes beside the digits, at most 5, 10, 4, 5 and 3
carriers_length : (road : Road) → SoundRoad road → (cs : List Carrier)
    → ((i : ℕ) → i < length cs → let c = get_or cs i none in (c.number ≤ 65535) × (c.speed ≤ road.limit) × (c.length ≤ 65535) × (c.rate ≤ 255) × (c.position < road.end + c.length))
    → length (carriers_text cs) ≤ 58 * length cs
unfolding carriers_text
carriers_length road r [] h = omega arith
carriers_length road r (c ∷ cs) h =
    let f = h 0 (omega arith) in
    let number = decimal_at_most 5 c.number (omega arith) (omega arith) in
    let position = decimal_at_most 10 c.position (omega arith) (omega arith) in
    let speed = decimal_at_most 4 c.speed (omega arith) (omega arith) in
    let long = decimal_at_most 5 c.length (omega arith) (omega arith) in
    let rate = decimal_at_most 3 c.rate (omega arith) (omega arith) in
    rw (length-append (carrier_text c) (carriers_text cs), length_carrier c) (omega (arith, carriers_length road r cs (λ i p. h (suc i) (omega arith))))

-- so that no text is longer than the longest
pub text_most : (l : Words) → broken (state_of l) ≡ false → length (lane_text (state_of l)) ≤ longest_text
unfolding lane_text
text_most l b =
    let s = state_of l in
    let h = sound s b in
    rw (length-append, length_line) (omega (
      arith,
      decimal_at_most 2 s.count (omega arith) (omega (arith, h.count)),
      carriers_length s.road h.road s.carriers (λ i p. let v = carriers_lawful s b i p in (v.1, v.2, v.3, v.5, v.6)),
      counted_most l,
      h.count,
    ))

-- ---- the carriers that a loop has still to see

pub carriers_next : (d : Carrier) (l : List Carrier) (i count : ℕ) → i < count → count ≤ length l
    → carriers_text (slice i count l) ≡ carrier_text (get_or l i d) ++ carriers_text (slice (i + 1) count l)
unfolding carriers_text
carriers_next d l i count h k = rw (slice_next d l i count h k) refl

pub carriers_past : (l : List Carrier) (i count : ℕ) → count ≤ i → carriers_text (slice i count l) ≡ []
unfolding carriers_text
carriers_past l i count h = rw (slice_past l i count h) refl

pub length_next : (d : Carrier) (l : List Carrier) (i count : ℕ) → i < count → count ≤ length l
    → length (carriers_text (slice i count l)) ≡ length (carrier_text (get_or l i d)) + length (carriers_text (slice (i + 1) count l))
length_next d l i count h k = ap length (carriers_next d l i count h k) ∙ simp length-append

-- ---- writes

-- the first line is put, at a place of the buffer, and the carriers are still to be put
module _ (f : Figures) (tables : Tables) (records : List Carrier) (buffer : List ℕ) (from : ℕ) {at₀ : ℕ} {out₀ : List ℕ}
    (room : from + length (lane_text (state_with f tables records)) ≤ length buffer)
    (p : Put from (line cars_key.name (decimal f.count)) buffer out₀ at₀) where
  abbrev header : List ℕ
  header = line cars_key.name (decimal f.count)

  abbrev carriers : List ℕ
  carriers = carriers_text (take f.count records)

  first_room : from + length header + length carriers ≤ length buffer
  unfolding lane_text
  first_room = omega (arith, room, length-append header carriers)

  first_place_is : at₀ ≡ from + length header
  first_place_is = p.1 ∙ place_fits from header buffer (omega (arith, first_room))

  pub writing_start : Putting carriers at₀ out₀ out₀ at₀ carriers
  writing_start =
      let same : length out₀ ≡ length buffer = ap length p.0 ∙ length_written from header buffer in
      putting_start carriers at₀ out₀ (omega (arith, first_room, first_place_is))

  pub writing_end : {out : List ℕ} {at i : ℕ} → Putting carriers at₀ out₀ out at (carriers_text (slice i f.count records)) → f.count ≤ i
      → (out ≡ written from (lane_text (state_with f tables records)) buffer) × (at ≡ from + length (lane_text (state_with f tables records)))
  unfolding lane_text
  writing_end {i = i} w h =
      let end = putting_end w (carriers_past records i f.count h) in
      (cc (end.0, p.0, first_place_is, written_then from header carriers buffer first_room), rw length-append (omega (arith, end.1, first_place_is)))
