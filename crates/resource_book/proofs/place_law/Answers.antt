use Rattle.resource_book.proofs.PlaceLaws.{gives_free}
use Rattle.resource_book.proofs.place_law.Goals as goal

pub returns : goal.returns
returns c place r call things l t passes g = gives_free place r things l t call passes g
