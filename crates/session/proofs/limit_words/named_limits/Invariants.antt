use Rattle.std.proofs.Common.{ℕ, List, ◌++◌, ◌+◌, ◌-◌, ◌≤◌, length, drop, vec_items}
use Rattle.commands.specs.Names.{Names}
use Rattle.choice.specs.declared.ChosenLimit.{ChosenLimit}
use Rattle.session.specs.LimitWords.{NamesLimits, FileAt}
use Rattle.session.proofs.limit_words.named_limits.Given as goal

-- whatever limits the words that are left name, with those before they are what all words name; and a file that is named among those that are left is one of all
abbrev pub invariant-loop-named : goal.invariant-loop-named
invariant-loop-named l = record {
  within : l.named ≤ length l.words;
  left : Names (drop l.named l.words);
  limits : (more : List ChosenLimit) → NamesLimits (drop l.named l.words) more → NamesLimits l.words (vec_items l.limits ++ more);
  files : (at : ℕ) (file : List ℕ) → FileAt (l.named + 2) (drop l.named l.words) at file → FileAt 2 l.words at file;
}

abbrev pub decreases-loop-named : goal.decreases-loop-named
decreases-loop-named l = length l.words - l.named
