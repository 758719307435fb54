use Rattle.std.proofs.Common.{◌≡◌, ◌<◌, sym, ap, ◌∙◌, [], ◌∷◌, ◌++◌, map, None, ◌+◌, slice_set, slice_index_or, subst, Some}
use Rattle.std.specs.List.{find}
use Rattle.gfx_model.specs.Words.{Handle, kind_number, greatest, solid}
use Rattle.gfx_model.specs.World.{program_content}
use Rattle.gfx_model.specs.Resources.{Resources, make, top_index, without_top_index, is_at, Book}
use Rattle.gfx_words.specs.Kinds.{kind_seen, info_seen}
use Rattle.resource_book.specs.Seen.{fact_seen}
use Rattle.resource_book.specs.Stacks.{StackView, book_seen}
use Rattle.resource_book.specs.Shelves.{resources_of}
use Rattle.resource_book.proofs.BareLaws.{made_after, fact_bare}
use Rattle.resource_laws.proofs.LawfulLaws.{none_before}
use Rattle.resource_book.proofs.Rooms.{none_counted, things_fit}
use Rattle.resource_book.proofs.StackLaws.{limit_here, limits_same, book_here, books_changed}
use Rattle.resource_book.proofs.shelf.Shelf.make.Goals as goal

pub of-handle-requires : goal.of-handle-requires
of-handle-requires c = subst (λ n. c.take-index.result < n) (limit_here c.args.self.now.stacks (kind_seen c.args.kind) c.number.result c.index-self-number.result c.number.ensures c.requires.limits) c.take-index.ensures.below

pub push-requires-clause-free : goal.push-requires-clause-free
push-requires-clause-free c =
    let k = kind_seen c.args.kind in
    let here = book_here c.args.self.now.stacks k c.number.result c.index-self-number.result (record { free = []; waiting = [] }) c.number.ensures c.requires.limits in
    let top : top_index (slice_index_or (map book_seen c.args.self.now.stacks) (kind_number k) (record { free = []; waiting = [] })).free ≡ c.take-index.result = ap (λ (b : Book). top_index b.free) here ∙ ap (λ (s : StackView). top_index s.free) c.take-index.ensures.taken in
    let handle : c.of-handle.result ≡ record { kind = k; index = top_index (slice_index_or (map book_seen c.args.self.now.stacks) (kind_number k) (record { free = []; waiting = [] })).free; serial = c.args.self.now.next_serial; info = info_seen c.args.info } =
    c.of-handle.ensures ∙ (λ j. record { kind = k; index = sym top j; serial = c.args.self.now.next_serial; info = info_seen c.args.info }) in
    (λ j. find (is_at (handle j).kind (handle j).index) c.args.self.now.table.things) ∙ none_counted (is_at k (top_index (slice_index_or (map book_seen c.args.self.now.stacks) (kind_number k) (record { free = []; waiting = [] })).free)) c.args.self.now.table.things (none_before k (info_seen c.args.info) (program_content solid) (resources_of c.args.self.now) c.requires.lawful c.requires.index c.requires.serial tt)

pub push-requires-clause-below : goal.push-requires-clause-below
push-requires-clause-below c = subst (λ (h : Handle). h.index < greatest h.kind) (sym c.of-handle.ensures)
    (subst (λ n. c.take-index.result < n) (limit_here c.args.self.now.stacks (kind_seen c.args.kind) c.number.result c.index-self-number.result c.number.ensures c.requires.limits) c.take-index.ensures.below)

pub push-requires-clause-few : goal.push-requires-clause-few
push-requires-clause-few c = things_fit (resources_of c.args.self.now) c.requires.lawful

pub returns-clause-limits : goal.returns-clause-limits
returns-clause-limits c = limits_same c.args.self.now.stacks (kind_seen c.args.kind) c.number.result c.index-self-number.result c.take-index.new.self c.number.ensures c.requires.limits (sym (ap (λ (s : StackView). s.limit) c.take-index.ensures.taken))

pub returns-clause-made : goal.returns-clause-made
returns-clause-made c =
    let k = kind_seen c.args.kind in
    let here = book_here c.args.self.now.stacks k c.number.result c.index-self-number.result (record { free = []; waiting = [] }) c.number.ensures c.requires.limits in
    let top : top_index (slice_index_or (map book_seen c.args.self.now.stacks) (kind_number k) (record { free = []; waiting = [] })).free ≡ c.take-index.result = ap (λ (b : Book). top_index b.free) here ∙ ap (λ (s : StackView). top_index s.free) c.take-index.ensures.taken in
    let handle : c.of-handle.result ≡ record { kind = k; index = top_index (slice_index_or (map book_seen c.args.self.now.stacks) (kind_number k) (record { free = []; waiting = [] })).free; serial = c.args.self.now.next_serial; info = info_seen c.args.info } =
    c.of-handle.ensures ∙ (λ j. record { kind = k; index = sym top j; serial = c.args.self.now.next_serial; info = info_seen c.args.info }) in
    ap Some handle

pub returns-clause-after : goal.returns-clause-after
returns-clause-after c content is =
    let k = kind_seen c.args.kind in
    let here = book_here c.args.self.now.stacks k c.number.result c.index-self-number.result (record { free = []; waiting = [] }) c.number.ensures c.requires.limits in
    let top : top_index (slice_index_or (map book_seen c.args.self.now.stacks) (kind_number k) (record { free = []; waiting = [] })).free ≡ c.take-index.result = ap (λ (b : Book). top_index b.free) here ∙ ap (λ (s : StackView). top_index s.free) c.take-index.ensures.taken in
    let handle : c.of-handle.result ≡ record { kind = k; index = top_index (slice_index_or (map book_seen c.args.self.now.stacks) (kind_number k) (record { free = []; waiting = [] })).free; serial = c.args.self.now.next_serial; info = info_seen c.args.info } =
    c.of-handle.ensures ∙ (λ j. record { kind = k; index = sym top j; serial = c.args.self.now.next_serial; info = info_seen c.args.info }) in
    let books = books_changed c.args.self.now.stacks k c.number.result c.index-self-number.result c.take-index.new.self without_top_index (record { free = []; waiting = [] }) c.number.ensures c.requires.limits (sym (ap (λ (s : StackView). without_top_index (book_seen s)) c.take-index.ensures.taken)) in
    let new : Resources = record {
      latency = c.args.self.now.latency;
      frame = c.args.self.now.frame;
      books = map book_seen (slice_set c.args.self.now.stacks c.number.result c.take-index.new.self);
      things = c.push.new.self.things;
      next_serial = c.args.self.now.next_serial + 1;
      views = c.args.self.now.views;
    } in
    let made : new ≡ (make k (info_seen c.args.info) (fact_seen c.args.fact) (resources_of c.args.self.now)).after = λ j. record {
      latency = c.args.self.now.latency;
      frame = c.args.self.now.frame;
      books = books j;
      things = (c.push.ensures.things ∙ (λ i. c.args.self.now.table.things ++ (record { handle = handle i; birth = c.args.self.now.frame; death = None; content = fact_seen c.args.fact; references = 1 }) ∷ [])) j;
      next_serial = c.args.self.now.next_serial + 1;
      views = c.args.self.now.views;
    } in
    made_after (resources_of c.args.self.now) new k (info_seen c.args.info) content (fact_seen c.args.fact) (λ j. record new { things = c.push.ensures.bare j }) (fact_bare c.args.fact) made is
