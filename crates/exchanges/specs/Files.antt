-- Worked chart files with their answers, as a table.
use Rattle.std.specs.Prelude.{◌≡◌, ℕ, List, [], ◌∷◌, Ok, Err, Result}
use Rattle.std.specs.List.{AllByRecursion}
use Rattle.fault.specs.declared.Fault.{Fault}
use Rattle.fault.specs.Numbers.{number_of}
use Rattle.acts.specs.Acts.{Lines}
use Rattle.files.specs.Reading.{reading}

-- a file, and the number and the place of its refusal
pub record Exchange : Type 0 where
  pub file : List ℕ
  pub number : ℕ
  pub place : ℕ

-- the answer is this refusal
abbrev pub Refuses : Result Lines Fault → ℕ → ℕ → Type 0
Refuses (Ok c) number place = ⊥
Refuses (Err f) number place = (number_of f.layer ≡ number) × (f.place ≡ place)

abbrev pub worked : List Exchange
worked =
    -- no byte where a command is due
    record { file = []; number = 1; place = 0 }
    -- seven parties
    ∷ record { file = 0x43 ∷ 0x07 ∷ []; number = 3; place = 1 }
    -- the end while a line is missing
    ∷ record { file = 0x43 ∷ 0x02 ∷ 0x4c ∷ 0x00 ∷ 0x5a ∷ []; number = 2; place = 4 }
    -- 0 sends 5 to 1, which never receives it
    ∷ record {
      file = 0x43 ∷ 0x02 ∷ 0x4c ∷ 0x00 ∷ 0x53 ∷ 0x01 ∷ 0x05 ∷ 0x4c ∷ 0x01 ∷ 0x5a ∷ [];
      number = 6;
      place = 37;
    }
    -- 0 receives 1, then sends 2; 1 receives 2, then sends 1
    ∷ record {
      file =
          0x43 ∷ 0x02 ∷ 0x4c ∷ 0x00 ∷ 0x52 ∷ 0x01 ∷ 0x01 ∷ 0x53 ∷ 0x01 ∷ 0x02
          ∷ 0x4c ∷ 0x01 ∷ 0x52 ∷ 0x00 ∷ 0x02 ∷ 0x53 ∷ 0x00 ∷ 0x01 ∷ 0x5a ∷ [];
      number = 7;
      place = 0;
    }
    ∷ []

abbrev pub WorkedExchanges : Type 0
WorkedExchanges = AllByRecursion (λ x. Refuses (reading x.file) x.number x.place) worked
