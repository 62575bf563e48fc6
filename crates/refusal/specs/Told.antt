-- What is told of a refusal: its number in the table, and then the values that come with it.
use Rattle.std.specs.Prelude.{ℕ, List, [], ◌∷◌, Some, None, Ok, Err, Option, Result}
use Rattle.refusal.specs.declared.Fault.{Fault}
use Rattle.refusal.specs.declared.FaultKind.{FaultKind}
use Rattle.refusal.specs.declared.FaultKind.TheVariants.{ReadFailed, Beyond}
use Rattle.refusal.specs.declared.Refusal.{Refusal}
use Rattle.refusal.specs.declared.Refusal.TheVariants.{Bounds, HeadTaken, Past, OffDisk, PoolShort, Crowded, WrongSize, LastSlot, NotThere, LeasesOut, NotHeld, HeadEmpty, Faulted, BadImage, BadEntry, BadCue, Full, ShortOutput}

abbrev pub kind_number : FaultKind → ℕ
kind_number ReadFailed = 13
kind_number Beyond = 14

abbrev pub refusal_number : Refusal → ℕ
refusal_number Bounds = 1
refusal_number HeadTaken = 2
refusal_number Past = 3
refusal_number OffDisk = 4
refusal_number PoolShort = 5
refusal_number (Crowded s) = 6
refusal_number WrongSize = 7
refusal_number LastSlot = 8
refusal_number NotThere = 9
refusal_number LeasesOut = 10
refusal_number NotHeld = 11
refusal_number HeadEmpty = 12
refusal_number (Faulted f) = kind_number f.kind
refusal_number BadImage = 15
refusal_number BadEntry = 16
refusal_number (BadCue p) = 17
refusal_number Full = 18
refusal_number ShortOutput = 19

-- Crowded comes with its span, a fault with its disk's tag and its block, Bad cue with its line and place
abbrev pub refusal_values : Refusal → List ℕ
refusal_values Bounds = []
refusal_values HeadTaken = []
refusal_values Past = []
refusal_values OffDisk = []
refusal_values PoolShort = []
refusal_values (Crowded s) = s.l ∷ s.h ∷ []
refusal_values WrongSize = []
refusal_values LastSlot = []
refusal_values NotThere = []
refusal_values LeasesOut = []
refusal_values NotHeld = []
refusal_values HeadEmpty = []
refusal_values (Faulted f) = f.tag ∷ f.block ∷ []
refusal_values BadImage = []
refusal_values BadEntry = []
refusal_values (BadCue p) = p.line ∷ p.byte ∷ []
refusal_values Full = []
refusal_values ShortOutput = []

abbrev pub told : Refusal → List ℕ
told r = refusal_number r ∷ refusal_values r

-- the number of an answer: 0 where it is granted, else the refusal's
abbrev pub answer_number : {T : Type 0} → Result T Refusal → ℕ
answer_number (Ok x) = 0
answer_number (Err e) = refusal_number e

-- the fault that a refusal comes with, if it is one of a disk's read
abbrev pub refusal_fault : Refusal → Option Fault
refusal_fault Bounds = None
refusal_fault HeadTaken = None
refusal_fault Past = None
refusal_fault OffDisk = None
refusal_fault PoolShort = None
refusal_fault (Crowded s) = None
refusal_fault WrongSize = None
refusal_fault LastSlot = None
refusal_fault NotThere = None
refusal_fault LeasesOut = None
refusal_fault NotHeld = None
refusal_fault HeadEmpty = None
refusal_fault (Faulted f) = Some f
refusal_fault BadImage = None
refusal_fault BadEntry = None
refusal_fault (BadCue p) = None
refusal_fault Full = None
refusal_fault ShortOutput = None

abbrev pub answer_fault : {T : Type 0} → Result T Refusal → Option Fault
answer_fault (Ok x) = None
answer_fault (Err e) = refusal_fault e
