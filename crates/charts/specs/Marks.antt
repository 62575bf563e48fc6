-- Each mark as an element of the SVG, on a line of its own.
use Rattle.std.specs.Prelude.{ℕ, List, [], ◌∷◌, ◌++◌, codes, decimal}
use Prim.Native.String.{String}
use Rattle.charts.specs.declared.mark.Mark.{Mark}
use Rattle.charts.specs.declared.mark.Mark.TheVariants.{Reads, Failures, Lease, Order, Close, Refusal, End, Tick, Tallies, NotRun}

-- three numbers in a text, and two
abbrev pub three : String → ℕ → String → ℕ → String → ℕ → String → List ℕ
three s a t b u c v = codes s ++ (decimal a ++ (codes t ++ (decimal b ++ (codes u ++ (decimal c ++ codes v)))))

abbrev pub two : String → ℕ → String → ℕ → String → List ℕ
two s a t b u = codes s ++ (decimal a ++ (codes t ++ (decimal b ++ codes u)))

abbrev pub mark_text : Mark → List ℕ
mark_text (Reads x y width) = three "<path class='r' d='M" x " " y "h" width "'/>"
mark_text (Failures x y width) = three "<path class='f' d='M" x " " y "h" width "'/>"
mark_text (Lease x y width) = three "<path class='l' d='M" x " " y "h" width "'/>"
mark_text (Order x y) = two "<use href='#o' x='" x "' y='" y "'/>"
mark_text (Close x y) = two "<use href='#c' x='" x "' y='" y "'/>"
mark_text (Refusal x y) = two "<use href='#x' x='" x "' y='" y "'/>"
mark_text (End cause x y) = three "<use href='#e" cause "' x='" x "' y='" y "'/>"
mark_text (Tick slot x) = three "<path class='a' d='M" x " 44V482'/><text class='n' x='" x "' y='38'>" slot "</text>"
mark_text (Tallies slot attempts failed) = three "<text class='t' x='100' y='508'>Last slot " slot ": " attempts " attempts, " failed " of them failed.</text>"
mark_text (NotRun number line place) = three "<text class='t' x='100' y='508'>The job did not run: refused with number " number ", line " line ", place " place ".</text>"

abbrev pub mark_line : Mark → List ℕ
mark_line m = mark_text m ++ 10 ∷ []
