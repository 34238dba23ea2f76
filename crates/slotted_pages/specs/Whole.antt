-- A page that is written whole, from the slots that it gets.
use Rattle.std.specs.Prelude.{ℕ, ◌+◌, ◌-◌, ◌*◌, List, [], ◌∷◌, ◌++◌, length, map}
use Rattle.std.specs.Option.{option_map}
use Rattle.ex_base.specs.Fields.{two_bytes, four_bytes, zeros}
use Rattle.slotted_pages.specs.declared.whole.SlotBody.{SlotBody}
use Rattle.slotted_pages.specs.FilePage.{Slot, bodies, directory, taken}

-- the slot that is held so
abbrev pub held : SlotBody → Slot
held slot = option_map (λ body. body.now) slot.body

abbrev pub slots_held : List SlotBody → List Slot
slots_held slots = map held slots

-- a file page that has room for a number of slots and has these of them
unfoldable pub filled_page : ℕ → ℕ → ℕ → List Slot → List ℕ
filled_page size file_no count slots = 3 ∷ 0 ∷ (two_bytes count ++ (zeros 4 ++ (four_bytes file_no ++ (zeros 4 ++ (bodies slots ++ (zeros (size - taken slots) ++ directory 16 slots))))))
