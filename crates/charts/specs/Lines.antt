-- The mark that each line of a log has by itself.
use Rattle.std.specs.Prelude.{ℕ, ◌+◌, ◌-◌, ◌*◌, ◌%◌, max, Bool, false, cond, ◌&&◌, List, [], ◌∷◌, ◌++◌, Some, None, Option, ◌==◌, nat_le}
use Rattle.charts.specs.Bands.{x_of, y_of}
use Rattle.charts.specs.Marks.{mark_line}
use Rattle.charts.specs.declared.entry.Entry.{Entry}
use Rattle.charts.specs.declared.entry.Entry.TheVariants.{Order, Take, Give, Close, Read, Failed, Ended, Done, Refused}
use Rattle.charts.specs.declared.mark.Mark.{Mark}
use Rattle.charts.specs.declared.mark.Mark.TheVariants as mark

abbrev pub slot_of : Entry → ℕ
slot_of (Order slot head answer l h) = slot
slot_of (Take slot head block party answer lease) = slot
slot_of (Give slot party lease answer) = slot
slot_of (Close slot head answer) = slot
slot_of (Read slot head block) = slot
slot_of (Failed slot head block attempt) = slot
slot_of (Ended slot head cause) = slot
slot_of (Done slot attempts failed) = slot
slot_of (Refused number line place) = 0

-- the lease is given back, or taken again
abbrev pub ends_lease : ℕ → Entry → Bool
ends_lease shown (Give slot party lease answer) = answer == 0 && lease == shown
ends_lease shown (Take slot head block party answer lease) = answer == 0 && lease == shown
ends_lease shown (Order slot head answer l h) = false
ends_lease shown (Close slot head answer) = false
ends_lease shown (Read slot head block) = false
ends_lease shown (Failed slot head block attempt) = false
ends_lease shown (Ended slot head cause) = false
ends_lease shown (Done slot attempts failed) = false
ends_lease shown (Refused number line place) = false

-- the slot in which a lease ends, among the lines after its take; one that does not end lasts through the last slot
abbrev pub lease_end : ℕ → ℕ → List Entry → ℕ
lease_end last lease [] = last + 1
lease_end last lease (e ∷ es) = cond (ends_lease lease e) (slot_of e) (lease_end last lease es)

abbrev pub lease_bar : ℕ → ℕ → ℕ → ℕ → Mark
lease_bar x end head lease = mark.Lease x (y_of head + 36 + 3 * (lease % 4)) (max (end - x) 1)

abbrev pub call_mark : ℕ → Mark → ℕ → ℕ → Mark
call_mark answer granted x y = cond (answer == 0) granted (mark.Refusal x y)

-- a bench has the leases 0 to 15
abbrev pub take_mark : ℕ → ℕ → ℕ → ℕ → ℕ → List Entry → Option Mark
take_mark last slot head answer lease after =
    cond (answer == 0) (cond (nat_le lease 15) (Some (lease_bar (x_of last slot) (x_of last (lease_end last lease after)) head lease)) None)
    (Some (mark.Refusal (x_of last slot) (y_of head)))

-- a give has no head: where it is refused, its mark stands in the row below
abbrev pub give_mark : ℕ → ℕ → ℕ → Option Mark
give_mark last slot answer = cond (answer == 0) None (Some (mark.Refusal (x_of last slot) (y_of 8)))

-- the end of a lane, or of the log; x is the place of its slot
abbrev pub end_mark : ℕ → Entry → Option Mark
end_mark x (Ended slot head cause) = Some (mark.End cause x (y_of head))
end_mark x (Done slot attempts failed) = Some (mark.Tallies slot attempts failed)
end_mark x (Refused number line place) = Some (mark.NotRun number line place)
end_mark x (Order slot head answer l h) = None
end_mark x (Take slot head block party answer lease) = None
end_mark x (Give slot party lease answer) = None
end_mark x (Close slot head answer) = None
end_mark x (Read slot head block) = None
end_mark x (Failed slot head block attempt) = None

-- the mark of a line, before the lines `after`
abbrev pub mark_of : ℕ → Entry → List Entry → Option Mark
mark_of last (Order slot head answer l h) after = Some (call_mark answer (mark.Order (x_of last slot) (y_of head)) (x_of last slot) (y_of head))
mark_of last (Take slot head block party answer lease) after = take_mark last slot head answer lease after
mark_of last (Give slot party lease answer) after = give_mark last slot answer
mark_of last (Close slot head answer) after = Some (call_mark answer (mark.Close (x_of last slot) (y_of head)) (x_of last slot) (y_of head))
mark_of last (Read slot head block) after = None
mark_of last (Failed slot head block attempt) after = None
mark_of last (Ended slot head cause) after = end_mark (x_of last slot) (Ended slot head cause)
mark_of last (Done slot attempts failed) after = end_mark (x_of last slot) (Done slot attempts failed)
mark_of last (Refused number line place) after = end_mark (x_of last 0) (Refused number line place)

abbrev pub mark_lines : Option Mark → List ℕ
mark_lines None = []
mark_lines (Some m) = mark_line m

-- the marks of a log's lines in their order
unfoldable pub marks_lines : ℕ → List Entry → List ℕ
marks_lines last [] = []
marks_lines last (e ∷ es) = mark_lines (mark_of last e es) ++ marks_lines last es
