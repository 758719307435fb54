-- The first state is one that a book keeps.
use Rattle.std.proofs.Common.{◌≡◌, ◌+◌, ◌≤◌, map, length, sym, ap, subst, arith}
use Rattle.gfx_model.specs.Words.{all_kinds}
use Rattle.gfx_model.specs.Resources.{is_live, greatest_serial}
use Rattle.resource_laws.specs.Lawful.{count_where, IsLawful}
use Rattle.resource_laws.proofs.StartLaws.{lawful_opening}
use Rattle.resource_book.specs.declared.book.Book.TheInside.{Inside}
use Rattle.resource_book.specs.declared.opening.Start.{Start}
use Rattle.resource_book.specs.Books.{view_of, IsBook}
use Rattle.resource_book.specs.Opened.{new_stack, opened}
use Rattle.resource_book.specs.Works.{destroy_bytes}
use Rattle.resource_book.specs.Stacks.{StackView}
use Rattle.resource_book.specs.Written.{BookView}

pub opened_kept : (d : Inside) (s : Start) → view_of d ≡ opened s → d.shelf.stacks ≡ map new_stack all_kinds → destroy_bytes ≤ d.post.spare → s.frame ≤ 1073741823 → s.serial ≤ greatest_serial + 1 → IsBook d
opened_kept d s e stacks room frame serial =
    let frames : d.shelf.frame ≡ s.frame = ap (λ (v : BookView). v.resources.frame) e in
    let posted : length d.post.commands ≡ 0 = ap (λ (v : BookView). length v.post) e in
    let lives : count_where is_live d.shelf.table.things ≡ 0 = ap (λ (v : BookView). count_where is_live v.resources.things) e in
    record {
      limits = ap (map (λ (b : StackView). b.limit)) stacks;
      lawful = subst IsLawful (sym (ap (λ (v : BookView). v.resources) e)) (lawful_opening s.views s.latency s.frame s.serial serial);
      frame = omega (arith, frames, frame);
      destroys = omega (arith, posted, lives);
      room = omega (arith, room);
    }
