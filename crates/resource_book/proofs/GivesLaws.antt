-- What a create gives.
use Rattle.std.proofs.Common.{◌≡◌, Result, Ok, Err, IfOk, subst}
use Rattle.gfx_model.specs.Words.{Handle}
use Rattle.gfx_model.specs.Resources.{ResourceCall}
use Rattle.gfx_words.specs.declared.refusals.Refusal.{Refusal}
use Rattle.resource_laws.specs.Lawful.{IsLawful}
use Rattle.resource_laws.specs.Laws.{Gives}
use Rattle.resource_laws.proofs.FreeLaws.{gives}
use Rattle.resource_book.specs.Written.{BookView}
use Rattle.resource_book.specs.Answered.{Creates}
use Rattle.resource_book.specs.Books.{view_of, IsBook}
use Rattle.resource_book.specs.declared.book.Book.TheInside.{Inside}

pub created_gives : (result : Result Handle Refusal) (call : ResourceCall) (old new : BookView) → IsLawful old.resources → Creates result call old new → IfOk result (λ h. Gives old.resources call h)
created_gives (Ok h) call old new l a = gives old.resources call h l a.0 a.1
created_gives (Err r) call old new l a = tt

-- the same of a book
pub book_gives : (result : Result Handle Refusal) (call : ResourceCall) (b : Inside) (v new : BookView) → IsBook b → view_of b ≡ v → Creates result call v new → IfOk result (λ h. Gives v.resources call h)
book_gives result call b v new k is a = created_gives result call v new (subst (λ (w : BookView). IsLawful w.resources) is k.lawful) a
