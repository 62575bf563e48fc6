-- The slots that are marked on the axis.
use Rattle.std.specs.Prelude.{ℕ, ◌+◌, ◌*◌, ◌/◌, cond, List, nat_le}
use Rattle.std.specs.List.{range_with_len, flat_map}
use Rattle.charts.specs.Bands.{x_of}
use Rattle.charts.specs.Marks.{mark_line}
use Rattle.charts.specs.declared.mark.Mark.{Mark}
use Rattle.charts.specs.declared.mark.Mark.TheVariants.{Tick}

-- a power of ten of which the last slot has at most a hundred
abbrev pub decade : ℕ → ℕ
decade last =
    cond (nat_le last 100) 1 (cond (nat_le last 1000) 10 (cond (nat_le last 10000) 100 (cond (nat_le last 100000) 1000 (cond (nat_le last 1000000) 10000 100000))))

abbrev pub step_from : ℕ → ℕ → ℕ
step_from ten last = cond (nat_le last (10 * ten)) ten (cond (nat_le last (20 * ten)) (2 * ten) (cond (nat_le last (50 * ten)) (5 * ten) (10 * ten)))

abbrev pub step_of : ℕ → ℕ
step_of last = step_from (decade last) last

abbrev pub tick : ℕ → ℕ → Mark
tick last slot = Tick slot (x_of last slot)

-- each multiple of a step up to the last slot
abbrev pub ticks_by : ℕ → ℕ → List ℕ → List ℕ
ticks_by last step ks = flat_map (λ k. mark_line (tick last (k * step))) ks

abbrev pub ticks_lines : ℕ → List ℕ
ticks_lines last = ticks_by last (step_of last) (range_with_len 0 (last / step_of last + 1))
