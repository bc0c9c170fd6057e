-- Worked machine files and a worked list file.
use Rattle.std.specs.Prelude.{◌≡◌, ℕ, List, [], ◌∷◌, length, Some, None, Option, slice_index_or}
use Rattle.acts.specs.declared.Act.{Act}
use Rattle.acts.specs.declared.Letter.TheVariants.{Send, Receive}
use Rattle.acts.specs.Acts.{Lines}
use Rattle.families.specs.Judgement.{Charts}
use Rattle.machines.specs.Files.{machine_file_bytes, list_file_bytes}
use Rattle.machines.specs.Reading.{leads, ends, entries}

-- an act by its party, peer and name
abbrev pub send : (party peer name : ℕ) → Act
send party peer name = record { party = party; letter = Send; peer = peer; name = name }

abbrev pub receive : (party peer name : ℕ) → Act
receive party peer name = record { party = party; letter = Receive; peer = peer; name = name }

-- these charts under the ids from 0 on
abbrev pub held : List (Option Lines) → Charts
held charts i = slice_index_or charts i None

-- 0 sends 5 to 1
abbrev pub single : Charts
single = held (Some ((send 0 1 5 ∷ []) ∷ (receive 1 0 5 ∷ []) ∷ []) ∷ [])

-- four parties: no acts; 0 sends 1 to 1; 2 sends 2 to 3; both
abbrev pub apart : Charts
apart =
    held (Some ([] ∷ [] ∷ [] ∷ [] ∷ [])
    ∷ Some ((send 0 1 1 ∷ []) ∷ (receive 1 0 1 ∷ []) ∷ [] ∷ [] ∷ [])
    ∷ Some ([] ∷ [] ∷ (send 2 3 2 ∷ []) ∷ (receive 3 2 2 ∷ []) ∷ [])
    ∷ Some ((send 0 1 1 ∷ []) ∷ (receive 1 0 1 ∷ []) ∷ (send 2 3 2 ∷ []) ∷ (receive 3 2 2 ∷ []) ∷ [])
    ∷ [])

-- 0 sends 1, 2 or 2, 1, and 1 receives them in that order
abbrev pub orders : Charts
orders =
    held (Some ((send 0 1 1 ∷ send 0 1 2 ∷ []) ∷ (receive 1 0 1 ∷ receive 1 0 2 ∷ []) ∷ [])
    ∷ Some ((send 0 1 2 ∷ send 0 1 1 ∷ []) ∷ (receive 1 0 2 ∷ receive 1 0 1 ∷ []) ∷ [])
    ∷ [])

-- the files of these charts, what one of them says when read back, and the list file of a told list
pub record WorkedFiles : Type 0 where
  pub one_chart : machine_file_bytes 1 2 single
      ≡ 0x4b ∷ 0x01 ∷ 0x02
      ∷ 0x50 ∷ 0x00 ∷ 0x53 ∷ 0x00 ∷ 0x00 ∷ 0x00 ∷ 0x01 ∷ 0x01 ∷ 0x05 ∷ 0x46 ∷ 0x00 ∷ 0x01
      ∷ 0x50 ∷ 0x01 ∷ 0x52 ∷ 0x00 ∷ 0x00 ∷ 0x00 ∷ 0x01 ∷ 0x00 ∷ 0x05 ∷ 0x46 ∷ 0x00 ∷ 0x01
      ∷ 0x5a ∷ []
  pub read_back : entries (machine_file_bytes 1 2 single) ≡ leads 0 0 (send 0 1 5) 1 ∷ ends 0 1 ∷ leads 1 0 (receive 1 0 5) 1 ∷ ends 1 1 ∷ []
  pub four_parties : machine_file_bytes 1 4 apart
      ≡ 0x4b ∷ 0x01 ∷ 0x04
      ∷ 0x50 ∷ 0x00 ∷ 0x53 ∷ 0x00 ∷ 0x00 ∷ 0x00 ∷ 0x01 ∷ 0x01 ∷ 0x01 ∷ 0x46 ∷ 0x00 ∷ 0x00 ∷ 0x46 ∷ 0x00 ∷ 0x01
      ∷ 0x50 ∷ 0x01 ∷ 0x52 ∷ 0x00 ∷ 0x00 ∷ 0x00 ∷ 0x01 ∷ 0x00 ∷ 0x01 ∷ 0x46 ∷ 0x00 ∷ 0x00 ∷ 0x46 ∷ 0x00 ∷ 0x01
      ∷ 0x50 ∷ 0x02 ∷ 0x53 ∷ 0x00 ∷ 0x00 ∷ 0x00 ∷ 0x01 ∷ 0x03 ∷ 0x02 ∷ 0x46 ∷ 0x00 ∷ 0x00 ∷ 0x46 ∷ 0x00 ∷ 0x01
      ∷ 0x50 ∷ 0x03 ∷ 0x52 ∷ 0x00 ∷ 0x00 ∷ 0x00 ∷ 0x01 ∷ 0x02 ∷ 0x02 ∷ 0x46 ∷ 0x00 ∷ 0x00 ∷ 0x46 ∷ 0x00 ∷ 0x01
      ∷ 0x5a ∷ []
  pub two_orders : length (machine_file_bytes 1 2 orders) ≡ 76
  pub told_list_lem : list_file_bytes 2 (send 0 1 1 ∷ send 0 1 2 ∷ receive 1 0 2 ∷ [])
      ≡ 0x57 ∷ 0x02 ∷ 0x53 ∷ 0x00 ∷ 0x01 ∷ 0x01 ∷ 0x53 ∷ 0x00 ∷ 0x01 ∷ 0x02 ∷ 0x52 ∷ 0x01 ∷ 0x00 ∷ 0x02 ∷ 0x5a ∷ []
