-- What holds of lines.
use Rattle.std.specs.Prelude.{◌≡◌, ◌≢◌, ℕ, List, [], ◌∷◌, ◌++◌, All, flat_map}
use Rattle.hsp_talk.specs.Talk.{last_line, line_feed, whole_lines}

-- octets are their whole lines, each with its end, and then their last line
abbrev pub LinesMakeOctets : Type 0
LinesMakeOctets =
    (octets : List ℕ)
    → octets ≡ flat_map (λ line. line ++ line_feed ∷ []) (whole_lines [] octets) ++ last_line [] octets

-- no line goes on after an end
abbrev pub IsOneLine : List ℕ → Type 0
IsOneLine line = All (λ octet. octet ≢ line_feed) line

abbrev pub LinesEndOnce : Type 0
LinesEndOnce = (octets : List ℕ) → All IsOneLine (whole_lines [] octets) × IsOneLine (last_line [] octets)
