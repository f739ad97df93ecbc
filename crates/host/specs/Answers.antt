-- The answers as C gets them, in structs of its layout: document 01, "A refusal holds its number, with place, word, counts and both doubles zero."
use Rattle.std.specs.Prelude.{ℕ, List, Option, None, Result}
use Rattle.std.specs.Result.{result_unwrap_or}
use Rattle.wish.specs.Reading.{reading_of}
use Rattle.wish.specs.declared.Reading.{Reading}
use Rattle.lane.specs.declared.Cycled.{Cycled as Run}
use Rattle.lane.specs.declared.Opening.{Opening as Positions}
use Rattle.lane.specs.declared.refusal.Refusal.{Refusal}
use Rattle.lane.specs.Refusals.{outcome_no}
use Rattle.lane.specs.Call.{Answer, placed, run, shown, spanned, told, span_in}
use Rattle.host.specs.declared.answers.Cycled.{Cycled}
use Rattle.host.specs.declared.answers.Entered.{Entered}
use Rattle.host.specs.declared.answers.Listed.{Listed}
use Rattle.host.specs.declared.answers.Opening.{Opening}
use Rattle.host.specs.declared.answers.ReadOut.{ReadOut}

abbrev pub entered : Entered → Answer
entered r = placed r.no r.place

abbrev pub cycled : Cycled → Answer
cycled r = run r.no r.word r.replaced r.gone

abbrev pub read_out : ReadOut → Answer
read_out r = shown r.no r.reading

abbrev pub opening : Opening → Answer
opening r = spanned r.no (record { exists = r.exists; lowest = r.lowest; highest = r.highest })

abbrev pub listed : Listed → (bytes : List ℕ) → Answer
listed r bytes = told r.no r.length bytes

-- ---- of what the lane's call returned

abbrev pub entered_of : Result ℕ Refusal → Entered
entered_of r = record { no = outcome_no r; place = result_unwrap_or r 0 }

abbrev pub cycled_of : Result Run Refusal → Cycled
cycled_of r =
    let c = result_unwrap_or r (record { word = 0; replaced = 0; gone = 0 }) in
    record { no = outcome_no r; word = c.word; replaced = c.replaced; gone = c.gone }

abbrev pub read_out_of : Result Reading Refusal → ReadOut
read_out_of r = record { no = outcome_no r; reading = result_unwrap_or r (reading_of 0 0) }

abbrev pub opening_of : Result (Option Positions) Refusal → Opening
opening_of r =
    let s = span_in (result_unwrap_or r None) in
    record { no = outcome_no r; exists = s.exists; lowest = s.lowest; highest = s.highest }

abbrev pub listed_of : Result ℕ Refusal → Listed
listed_of r = record { no = outcome_no r; length = result_unwrap_or r 0 }
