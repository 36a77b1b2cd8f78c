-- The words and lines that the program reads.
use Rattle.std.specs.Prelude.{◌≡◌, ℕ, Bool, if◌then◌else◌, List, ◌∷◌, ◌++◌, length, ◌≤◌, ◌<◌, ◌^◌, Ok, codes}
use Rattle.std.specs.Str.Parse.{IsNumeral, digits_value}
use Rattle.hex.specs.Hex.{decode_of, decode_sized}
use Rattle.stateproof_cli.specs.declared.script.Step.{Step}
use Rattle.stateproof_cli.specs.declared.script.Step.TheVariants.{Put, Delete, Commit, Value, Absence}

-- 1 to 20 decimal digits of a number below 2 ^ 64
pub record IsNumber (text : List ℕ) : Type 0 where
  pub digits : IsNumeral 10 text
  pub short : length text ≤ 20
  pub fits : digits_value 10 text < 2 ^ 64

-- the digit of a bit: `1` is 49, `0` is 48
abbrev pub bit_digit : Bool → ℕ
bit_digit active = if active then 49 else 48

-- a bit, one blank, and the bytes in hexadecimal, one at least
pub record IsOperationLine (line : List ℕ) (active : Bool) (bytes : List ℕ) : Type 0 where
  pub digits : List ℕ
  pub parts : line ≡ bit_digit active ∷ 32 ∷ digits
  pub spelled : decode_of digits ≡ Ok bytes
  pub some : 0 < length bytes

-- a word, one blank, and the key in 8 hexadecimal digits
abbrev pub IsKeyLine : List ℕ → List ℕ → List ℕ → Type 0
IsKeyLine line word key = (digits : List ℕ) × (line ≡ word ++ 32 ∷ digits) × (decode_sized digits 4 ≡ Ok key)

-- what a line tells a database, or asks it
abbrev pub IsStepLine : List ℕ → Step → Type 0
IsStepLine line (Put key value) = (digits number : List ℕ) × (line ≡ codes "put" ++ 32 ∷ digits ++ 32 ∷ number)
    × (decode_sized digits 4 ≡ Ok key.bytes) × IsNumber number × (value ≡ digits_value 10 number)
IsStepLine line (Delete key) = IsKeyLine line (codes "delete") key.bytes
IsStepLine line Commit = line ≡ codes "commit"
IsStepLine line (Value key) = IsKeyLine line (codes "value") key.bytes
IsStepLine line (Absence key) = IsKeyLine line (codes "absence") key.bytes
