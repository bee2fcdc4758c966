use Rattle.std.proofs.Common.{◌≡◌, ◌≤◌, ℕ, false, None, List, ◌++◌, length}
use Rattle.line_streams.specs.Talk.{lines_of}
use Rattle.refusals.specs.Refusals.{LineAnswer}
use Rattle.site_http.specs.Replying.{AnswersEach, WithinLimit, text_of}
use Rattle.site_http.proofs.replying.answer_lines.Given as goal

-- the first lines were answered
abbrev pub invariant-loop-text : goal.invariant-loop-text
invariant-loop-text g l = record {
  answered : (done : List (List ℕ)) × (given : List LineAnswer)
      × AnswersEach (g.C.Backend.answers None false) l.fn.client done given l.client × WithinLimit given
      × (lines_of l.body ≡ done ++ lines_of l.lines) × (l.out.items ≡ text_of given);
  room : 18 ≤ l.out.spare;
}

abbrev pub decreases-loop-text : goal.decreases-loop-text
decreases-loop-text g l = length l.lines
