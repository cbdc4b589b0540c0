-- In content a record is an item.
use Rattle.boxlist.proofs.Contents.{one_placed, item_stands}
use Rattle.boxlist.proofs.list.BoxList.content_item.Goals as goal

pub unwrap-requires : goal.unwrap-requires
unwrap-requires c =
    let stands = rw c.unwrap-read.ensures at c.in_ok-record.ensures.read in
    rw c.item.ensures (item_stands c.args.self.now.stage c.record.new.self.stage c.unwrap-read.result c.requires (one_placed _ _ _ stands))
