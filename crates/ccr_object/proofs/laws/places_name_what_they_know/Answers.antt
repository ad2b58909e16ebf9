use Rattle.ccr_object.proofs.PlacesKeepKnownNames.{place_keeps, place_named, start_keeps}
use Rattle.ccr_object.proofs.Numbering.{exact_replies}
use Rattle.ccr_object.proofs.laws.places_name_what_they_know.Goals as goal

pub returns-clause-start : goal.returns-clause-start
returns-clause-start c = start_keeps

pub returns-clause-kept : goal.returns-clause-kept
returns-clause-kept c = place_keeps

pub returns-clause-replies : goal.returns-clause-replies
returns-clause-replies c = place_named

pub returns-clause-exact : goal.returns-clause-exact
returns-clause-exact c = exact_replies
