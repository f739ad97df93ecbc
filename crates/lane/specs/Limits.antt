-- The limits of document 01, by name: "Lane end: 1 to 2³¹. Speed limit V: 1 to 8,192. Carrier numbers: 1 to 65,535. At most 64 carriers.
-- Cycle number: 64 bits".
use Rattle.std.specs.Prelude.{ℕ, suc}

-- the last surface code
abbrev pub last_surface : ℕ
last_surface = 7

-- document 02, T-01: "eight rows", a code for each
abbrev pub surfaces : ℕ
surfaces = suc last_surface

-- T-01: "B at most 255 and A 1 to 255"; T-06: "the carrier's own rate, 1 to 255"
abbrev pub highest_rate : ℕ
highest_rate = 255

abbrev pub farthest_end : ℕ
farthest_end = 2147483648

abbrev pub fastest : ℕ
fastest = 8192

abbrev pub highest_number : ℕ
highest_number = 65535

-- document 02, T-03: "a length, 0 to 65,535 position units"
abbrev pub longest_carrier : ℕ
longest_carrier = 65535

-- "at, end, speed, limit, surface: 32 bits": as many positions as can be named
abbrev pub positions : ℕ
positions = 4294967296

abbrev pub most_carriers : ℕ
most_carriers = 64

abbrev pub last_cycle : ℕ
last_cycle = 18446744073709551615

-- the longest lane text: a line for the number of carriers, and of each at most 5, 10, 4, 5 and 3 digits
abbrev pub longest_text : ℕ
longest_text = 3720

-- the longest handover text: 48 lines of at most 6 bytes, lines of 10, 15, 11 and 27 bytes, and the longest lane text
abbrev pub longest_handover : ℕ
longest_handover = 4071
