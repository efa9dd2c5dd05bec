-- Each class of a kind is shown.
use Rattle.samr_objects.proofs.Querying.{shows-its-classes}
use Rattle.samr_objects.proofs.laws.classes_are_shown.Goals as goal

pub returns : goal.returns
returns c = shows-its-classes
