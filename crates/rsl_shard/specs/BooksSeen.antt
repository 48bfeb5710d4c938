-- How the inside of the books of a shard is seen.
use Rattle.rsl_shard.specs.Restep.{AreBooks, BooksSeen}
use Rattle.rsl_shard.specs.Setup.{Setup}
use Rattle.rsl_shard.specs.declared.books.Books.TheInside.{Inside}

abbrev pub setup_inside : Inside → Setup
setup_inside inside =
    record { shard = inside.shard; shards = inside.shards; accounts = inside.accounts }

abbrev pub books_seen : Inside → BooksSeen
books_seen inside = record { setup = setup_inside inside; books = inside.list.items }

abbrev pub HasBooks : Inside → Type 0
HasBooks inside = AreBooks (setup_inside inside) inside.list.items
