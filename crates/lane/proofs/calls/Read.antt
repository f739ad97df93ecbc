-- The lane text as it is read: carrier after carrier into the records, again what was written, and nothing else than that.
use mathlib.Core.Path.{◌≡◌, refl, sym, ap, ◌∙◌}
use mathlib.Core.List.{List, [], ◌∷◌, ◌++◌, map, map-map, map-id, map-append, append_assoc}
use Prim.Native.Nat.{ℕ, zero, suc, ◌+◌, ◌≤◌, ◌<◌}
use native.Mathlib.Numerals.{add-one}
use native.Mathlib.Omega.{arith}
use lib.ListN.{length, get_or, take, set, length-map, length-set}
use lib.Seq.{take-suc-set}
use Rattle.text.specs.Numbers.{decimal}
use Rattle.text.specs.Lines.{line}
use Rattle.text.specs.Groups.{groups_text, Got, got, missing, and_then, number_line, group_in, groups_in}
use Rattle.text.proofs.GroupLaws.{Held, AllHeld, line_again, groups_again, got_injective, got≢missing, line_taken, groups_taken, GroupsRead, groups_start, groups_on, groups_stop, groups_end}
use Rattle.lane.specs.declared.Carrier.{Carrier}
use Rattle.lane.specs.State.{State}
use Rattle.lane.specs.Layout.{record_in}
use Rattle.lane.specs.Calls.{none}
use Rattle.lane.specs.Listing.{carrier_keys, carrier_numbers, carrier_text, carriers_text, cars_key, lane_text, carriers_in, lane_text_in, FitsLines}

-- ---- carriers and their numbers

pub carriers_text_is : (cs : List Carrier) → carriers_text cs ≡ groups_text carrier_keys (map carrier_numbers cs)
unfolding carriers_text carrier_text
carriers_text_is [] = refl
carriers_text_is (c ∷ cs) = ap (λ (t : List ℕ). carrier_text c ++ t) (carriers_text_is cs)

carriers_of : (cs : List Carrier) → map record_in (map carrier_numbers cs) ≡ cs
carriers_of cs = map-map record_in carrier_numbers cs ∙ map-id cs

-- five numbers are those of a carrier
numbers_of_one : (g : List ℕ) → Held carrier_keys g → carrier_numbers (record_in g) ≡ g
numbers_of_one [] h = absurd h
numbers_of_one (a ∷ []) h = absurd h.1
numbers_of_one (a ∷ b ∷ []) h = absurd h.1.1
numbers_of_one (a ∷ b ∷ c ∷ []) h = absurd h.1.1.1
numbers_of_one (a ∷ b ∷ c ∷ d ∷ []) h = absurd h.1.1.1.1
numbers_of_one (a ∷ b ∷ c ∷ d ∷ e ∷ []) h = refl
numbers_of_one (a ∷ b ∷ c ∷ d ∷ e ∷ f ∷ g) h = absurd h.1.1.1.1.1

numbers_of_is : (gs : List (List ℕ)) → AllHeld carrier_keys gs → map carrier_numbers (map record_in gs) ≡ gs
numbers_of_is [] h = refl
numbers_of_is (g ∷ gs) h = rw (numbers_of_one g h.0, numbers_of_is gs h.1) refl

all_held : (cs : List Carrier) → ((i : ℕ) → i < length cs → FitsLines (get_or cs i none)) → AllHeld carrier_keys (map carrier_numbers cs)
all_held [] h = tt
all_held (c ∷ cs) h =
    let f = h 0 (omega arith) in
    ((f.number, (f.position, (f.speed, (f.long, (f.rate, tt))))), all_held cs (λ i p. h (suc i) (omega arith)))

each_fits : (cs : List Carrier) → AllHeld carrier_keys (map carrier_numbers cs) → (i : ℕ) → i < length cs → FitsLines (get_or cs i none)
each_fits [] h i p = absurd (omega arith)
each_fits (c ∷ cs) h zero p =
    let f = h.0 in
    record { number = f.0; position = f.1.0; speed = f.1.1.0; long = f.1.1.1.0; rate = f.1.1.1.1.0 }
each_fits (c ∷ cs) h (suc i) p = each_fits cs h.1 i (omega arith)

-- ---- record after record

-- the first `done` carriers are read and stand in the first records, and the others are still in what is left of the text
pub record CarriersRead (count : ℕ) (t : List ℕ) (done : ℕ) (records : List Carrier) (left : List ℕ) : Type 0 where
  pub long : length records ≡ 64
  pub groups : GroupsRead carrier_keys count t done (map carrier_numbers (take done records)) left

pub carriers_start : (count : ℕ) (t : List ℕ) (records : List Carrier) → length records ≡ 64 → CarriersRead count t 0 records t
carriers_start count t records e = record { long = e; groups = groups_start carrier_keys count t }

module _ {count : ℕ} {t : List ℕ} {done : ℕ} {records : List Carrier} {left : List ℕ} (m : CarriersRead count t done records left) where
  -- one carrier more
  module _ (h : done < count) where
    pub carriers_on : (c : Carrier) {rest : List ℕ} → count ≤ 64 → group_in carrier_keys left ≡ got (carrier_numbers c) rest
        → CarriersRead count t (done + 1) (set records done c) rest
    carriers_on c few e =
        let put : take (done + 1) (set records done c) ≡ take done records ++ (c ∷ []) =
        rw (add-one done) (take-suc-set records done c (omega (arith, m.long)))
        in
        record { long = length-set records done c ∙ m.long; groups = rw (put, map-append) (groups_on m.groups h e) }

    pub carriers_stop : group_in carrier_keys left ≡ missing → carriers_in count t ≡ missing
    unfolding carriers_in
    carriers_stop e = rw (groups_stop m.groups h e) refl

  pub carriers_end : count ≤ done → carriers_in count t ≡ got (take count records) left
  unfolding carriers_in
  carriers_end h =
      let all : done ≡ count = omega (arith, m.groups.within) in
      rw (groups_end m.groups h, carriers_of, all) refl

-- a lane text by its first line
module _ (t : List ℕ) where
  pub lane_none : number_line cars_key t ≡ missing → lane_text_in t ≡ missing
  unfolding lane_text_in
  lane_none e = rw e refl

  pub lane_told : {count : ℕ} {rest : List ℕ} → number_line cars_key t ≡ got count rest → lane_text_in t ≡ carriers_in count rest
  unfolding lane_text_in
  lane_told e = rw e refl

-- ---- what was written is read again

pub lane_again : (cs : List Carrier) (rest : List ℕ) (s : State) → s.count ≡ length cs → s.carriers ≡ cs → length cs ≤ 64
    → ((i : ℕ) → i < length cs → FitsLines (get_or cs i none)) → lane_text_in (lane_text s ++ rest) ≡ got cs rest
unfolding lane_text_in lane_text carriers_in
lane_again cs rest s n e few fit =
    let again = rw length-map at (groups_again carrier_keys (map carrier_numbers cs) rest refl (all_held cs fit)) in
    rw (n, e, append_assoc, line_again cars_key (length cs) (carriers_text cs ++ rest) refl few, carriers_text_is cs, again, carriers_of) refl

-- ---- whatever is read is what would be written

-- what comes after something is there only where that is
pub then_taken : {A B : Type 0} (x : Got A) (next : A → List ℕ → Got B) (b : B) (rest : List ℕ) → and_then x next ≡ got b rest
    → (a : A) × ((t : List ℕ) × ((x ≡ got a t) × (next a t ≡ got b rest)))
then_taken (got a t) next b rest e = (a, (t, (refl, e)))
then_taken missing next b rest e = absurd (got≢missing (sym e))

pub lane_taken : (t : List ℕ) (cs : List Carrier) (rest : List ℕ) → lane_text_in t ≡ got cs rest
    → (length cs ≤ 64)
    × ((i : ℕ) → i < length cs → FitsLines (get_or cs i none))
    × ((s : State) → s.count ≡ length cs → s.carriers ≡ cs → t ≡ lane_text s ++ rest)
unfolding lane_text_in lane_text carriers_in
lane_taken t cs rest e =
    let a = then_taken (number_line cars_key t) carriers_in cs rest e in
    let count = a.0 in
    let b = then_taken (groups_in carrier_keys count a.1.0) _ cs rest a.1.1.1 in
    let first = line_taken cars_key t count a.1.0 a.1.1.0 in
    let groups = groups_taken carrier_keys count a.1.0 b.0 b.1.0 b.1.1.0 in
    let last = got_injective b.1.1.1 in
    let same : b.0 ≡ map carrier_numbers cs = sym (numbers_of_is b.0 groups.2) ∙ ap (map carrier_numbers) last.0 in
    let many : length cs ≡ count = sym (ap length same ∙ length-map cs carrier_numbers) ∙ groups.1 in
    let others : a.1.0 ≡ carriers_text cs ++ rest = groups.0 ∙ rw (same, carriers_text_is cs, last.1) refl in (
      omega (arith, first.1),
      each_fits cs (rw same at groups.2),
      λ s n e. rw (n, e, many, append_assoc) (first.0 ∙ ap (λ (u : List ℕ). line cars_key.name (decimal count) ++ u) others),
    )
